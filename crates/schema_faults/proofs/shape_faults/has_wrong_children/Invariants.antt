use Rattle.std.proofs.Common.{◌≡◌, drop, map}
use Rattle.std.specs.List.{list_any}
use Rattle.schema_values.specs.Table.{contents}
use Rattle.schema_faults.specs.Children.{follows}
use Rattle.schema_faults.proofs.shape_faults.has_wrong_children.Given as goal

abbrev pub invariant-loop-steps : goal.invariant-loop-steps
invariant-loop-steps l =
    list_any (λ steps. follows steps l.tags) (map (λ steps. steps.now) (drop l.steps-index l.steps-items))
    ≡ list_any (λ steps. follows steps l.tags) (contents l.fn.kind)
