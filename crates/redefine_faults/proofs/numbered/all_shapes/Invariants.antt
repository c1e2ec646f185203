use Rattle.std.proofs.Common.{◌≡◌, ◌++◌, map, drop}
use Rattle.redefine_faults.proofs.numbered.all_shapes.Given as goal

abbrev pub invariant-loop-shape : goal.invariant-loop-shape
invariant-loop-shape l = map (λ r. r.now) l.all.items ++ drop l.shape-index l.shapes ≡ l.shapes
