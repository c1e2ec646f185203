use Rattle.std.proofs.Common.{refl, ap, ◌∙◌}
use Rattle.key_records.specs.Tables.{parent_in}
use Rattle.scope_targets.proofs.Parents.{one-more}
use Rattle.scope_targets.proofs.keys.reach.Goals as goal

pub short-init : goal.short-init
short-init c = λ m. refl

pub short-preserved : goal.short-preserved
short-preserved c = λ m. ap (λ ps. parent_in ps m) c.in_ok-push.ensures.items ∙ one-more c.short.parents.items m ∙ c.short.invariant m

pub returns-clause-same : goal.returns-clause-same
returns-clause-same c = c.short.invariant
