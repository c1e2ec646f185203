use Rattle.std.proofs.Common.{◌≡◌, drop, length}
use Rattle.std.specs.Cmp.Lexicographic.{pointwise}
use Rattle.simple_values.specs.Same.{same_item}
use Rattle.simple_values.proofs.value.same_items.Given as goal

abbrev pub invariant-loop-x : goal.invariant-loop-x
invariant-loop-x l = (length l.a ≡ length l.b)
    × (pointwise same_item (drop (length l.yielded) l.a) (drop (length l.yielded) l.b) ≡ pointwise same_item l.a l.b)
