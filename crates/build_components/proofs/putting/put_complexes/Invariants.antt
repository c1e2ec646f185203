use Rattle.std.proofs.Common.{◌≡◌, ◌++◌, take, drop, length}
use Rattle.build_components.proofs.putting.put_complexes.Given as goal

abbrev pub invariant-left : goal.invariant-left
invariant-left l = record {
  many : l.n ≡ length l.left.items;
  whole : l.left.items ++ drop l.n l.fn.bodies.items ≡ l.fn.bodies.items;
  put : l.parts ≡ record l.initial.parts { complexes = record l.initial.parts.complexes { parts = take l.n l.initial.parts.complexes.parts ++ drop l.n l.fn.bodies.items } };
}

abbrev pub decreases-left : goal.decreases-left
decreases-left l = length l.left.items
