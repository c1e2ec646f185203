use Rattle.scope_targets.proofs.Sums.{counted-outcomes}
use Rattle.scope_targets.proofs.counted_laws.counted_targets_are_the_outcomes.Goals as goal

pub returns : goal.returns
returns c = λ names t identities slots f are own below has k x. counted-outcomes names t identities slots f are own below has k x
