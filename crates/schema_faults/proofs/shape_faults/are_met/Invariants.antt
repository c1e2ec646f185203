use Rattle.std.proofs.Common.{◌≡◌, drop}
use Rattle.std.specs.List.{list_all}
use Rattle.schema_faults.specs.ShapeFaults.{is_met}
use Rattle.schema_faults.proofs.shape_faults.are_met.Given as goal

abbrev pub invariant-loop-rule : goal.invariant-loop-rule
invariant-loop-rule l = list_all (is_met l.attributes) (drop l.rule-index l.rules) ≡ list_all (is_met l.attributes) l.rules
