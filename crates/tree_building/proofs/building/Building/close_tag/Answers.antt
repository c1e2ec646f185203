use Rattle.std.proofs.Common.{ap}
use Rattle.tree_building.proofs.StepLaws.{tag_stops}
use Rattle.tree_building.proofs.building.Building.close_tag.Goals as goal

pub returns-in_err-named-in-Start-clause-step : goal.returns-in_err-named-in-Start-clause-step
returns-in_err-named-in-Start-clause-step c =
    tag_stops c.from_residual.result c.in_err-named-in-Start.field-0.0 c.args.self.now _ c.in-Start.tag c.in-Start.item
    (ap (λ n. record c.args.self.now { nest = n }) c.named_by.ensures.same) c.in-Start.is
    c.from_residual.ensures.1 c.in_err-named-in-Start.ensures.judged
