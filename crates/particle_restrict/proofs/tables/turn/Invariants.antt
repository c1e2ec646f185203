use Rattle.std.proofs.Common.{◌≡◌, ℕ, ◌+◌, ◌<◌, ◌≤◌, ◌&&◌, ◌⊎◌, ◌↔◌, false, IsTrue, length}
use Rattle.std.specs.Prelude.{slice_index_or}
use Rattle.particle_restrict.proofs.tables.turn.Given as goal

abbrev pub invariant-loop-i : goal.invariant-loop-i
invariant-loop-i g l = record {
  done : (k : ℕ) → l.low ≤ k → k < l.i → IsTrue (slice_index_or l.row.items k false) ↔
      (IsTrue (l.optional && slice_index_or l.initial.row.items k false) ⊎ (IsTrue (slice_index_or l.initial.row.items (k + 1) false) × g.P.Pairs.restricts l.pairs k l.j));
  count : length l.row.items ≡ length l.initial.row.items;
  under : (k : ℕ) → k < l.low → slice_index_or l.row.items k false ≡ slice_index_or l.initial.row.items k false;
  left : (k : ℕ) → l.i ≤ k → slice_index_or l.row.items k false ≡ slice_index_or l.initial.row.items k false;
}
