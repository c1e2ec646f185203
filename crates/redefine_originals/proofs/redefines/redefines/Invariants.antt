use Rattle.std.proofs.Common.{◌≡◌, ◌++◌, map, drop}
use Rattle.std.specs.Prelude.{filter_map}
use Rattle.redefine_originals.specs.inside.Redefines.{redefine_entry, redefine_at}
use Rattle.redefine_originals.proofs.redefines.redefines.Given as goal

abbrev pub invariant-loop-shape : goal.invariant-loop-shape
invariant-loop-shape l = map redefine_entry l.found ++ filter_map redefine_at (drop l.shape-index l.shapes) ≡ filter_map redefine_at l.shapes
