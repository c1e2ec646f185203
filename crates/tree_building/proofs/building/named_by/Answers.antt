use Rattle.std.proofs.Common.{sym, ◌∙◌}
use Rattle.tree_building.specs.Nest.{scope_in}
use Rattle.tree_building.proofs.StepLaws.{named_well, named_ill}
use Rattle.tree_building.proofs.building.named_by.Goals as goal

pub returns-in-Ok-clause-says : goal.returns-in-Ok-clause-says
returns-in-Ok-clause-says c =
    (named_well c.args.rules (scope_in c.args.nest.now) c.args.tag.now c.in-Ok.named c.if-rules.true (sym c.in-Ok.is ∙ c.in_ok-named.ensures.end)).1

pub returns-in-Err-clause-judged : goal.returns-in-Err-clause-judged
returns-in-Err-clause-judged c =
    named_ill c.args.rules (scope_in c.args.nest.now) c.args.tag.now c.args.item c.in-Err.reason c.if-rules.true (sym c.in-Err.is ∙ c.in_ok-named.ensures.end)
