use Rattle.std.proofs.Common.{◌≡◌, ◌++◌, map, drop}
use Rattle.std.specs.List.{flat_map}
use Rattle.redefine_faults.proofs.below.put_shapes.Given as goal

abbrev pub invariant-loop-shape : goal.invariant-loop-shape
invariant-loop-shape l = record {
  found : map (λ r. r.now) l.found ++ map (λ r. r.now) (drop l.shape-index l.shapes) ≡ map (λ r. r.now) l.initial.found ++ map (λ r. r.now) l.shapes;
  left : l.left.items ++ flat_map (λ s. s.members) (map (λ r. r.now) (drop l.shape-index l.shapes)) ≡ l.initial.left.items ++ flat_map (λ s. s.members) (map (λ r. r.now) l.shapes);
}
