use Rattle.std.proofs.Common.{take}
use Rattle.std.specs.Prelude.{Contains}
use Rattle.std.specs.List.{flat_map}
use Rattle.xs_codes.specs.Least.{IsLeast}
use Rattle.schema_set.specs.inside.Faults.{shape_faults}
use Rattle.schema_set.proofs.faults.shapes_fault.Given as goal

abbrev pub invariant-loop-shape : goal.invariant-loop-shape
invariant-loop-shape l = IsLeast (Contains (flat_map (shape_faults l.sources.available.now l.document) (take l.shape-index l.shapes))) l.first
