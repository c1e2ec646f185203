use Rattle.std.proofs.Common.{◌≡◌, ℕ, ◌+◌, ◌-◌, ◌≤◌, ◌↔◌, IsTrue, false, drop, length}
use Rattle.std.specs.Prelude.{slice_index_or}
use Rattle.particle_restrict.proofs.Mapping.{Fits, IsOutside}
use Rattle.particle_restrict.proofs.tables.has_map.Given as goal

abbrev pub invariant-loop-behind : goal.invariant-loop-behind
invariant-loop-behind g l = record {
  count : length l.row.items ≡ l.members + 1;
  values : (i : ℕ) → i ≤ l.members → IsTrue (slice_index_or l.row.items i false) ↔
      Fits (g.P.Pairs.restricts l.pairs) l.members i (length l.optional - l.behind) (drop (length l.optional - l.behind) l.optional);
  end : l.end ≤ l.members + 1;
  outside : IsOutside l.low l.end l.row.items;
}
