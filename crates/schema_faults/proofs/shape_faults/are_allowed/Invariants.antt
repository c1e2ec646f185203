use Rattle.std.proofs.Common.{◌≡◌, drop}
use Rattle.std.specs.List.{list_all}
use Rattle.schema_faults.specs.ShapeFaults.{is_allowed}
use Rattle.schema_faults.proofs.shape_faults.are_allowed.Given as goal

abbrev pub invariant-loop-attribute : goal.invariant-loop-attribute
invariant-loop-attribute l = list_all (is_allowed l.rules) (drop l.attribute-index l.attributes) ≡ list_all (is_allowed l.rules) l.attributes
