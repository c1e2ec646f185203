use Rattle.std.proofs.Common.{◌≡◌, map, replicate, false, [], List, ℕ}
use Rattle.xs_positions.proofs.sets.Part.unused.Given as goal

abbrev pub invariant-loop : goal.invariant-loop
invariant-loop l = record {
  follow : map (λ row. row.items) l.follow.items ≡ replicate {A = List ℕ} l.counter [];
  useful : l.useful.items ≡ replicate l.counter false;
}
