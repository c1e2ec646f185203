use Rattle.std.proofs.Common.{◌≡◌, drop}
use Rattle.std.specs.List.{list_all}
use Rattle.schema_faults.specs.ShapeFaults.{is_fit}
use Rattle.schema_faults.proofs.shape_faults.are_fit.Given as goal

abbrev pub invariant-loop-attribute : goal.invariant-loop-attribute
invariant-loop-attribute l = list_all (is_fit l.scope l.rules) (drop l.attribute-index l.attributes) ≡ list_all (is_fit l.scope l.rules) l.attributes
