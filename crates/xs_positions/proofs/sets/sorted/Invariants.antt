use Rattle.std.proofs.Common.{◌≡◌, ℕ, ◌<◌, ◌↔◌, length, Contains}
use Rattle.std.specs.List.Sorted.{IsStrictlyIncreasing}
use Rattle.xs_positions.specs.Sets.{row}
use Rattle.xs_positions.proofs.Linking.{lists}
use Rattle.xs_positions.proofs.sets.sorted.Given as goal

-- the rows up to here are in order, and each has its members
abbrev pub invariant-loop-i : goal.invariant-loop-i
invariant-loop-i l = record {
  count : length l.rows.items ≡ length l.initial.rows.items;
  members : (k p : ℕ) → k < length l.initial.rows.items → Contains (row (lists l.rows.items) k) p ↔ Contains (row (lists l.initial.rows.items) k) p;
  rises : (k : ℕ) → k < l.i → IsStrictlyIncreasing (row (lists l.rows.items) k);
}
