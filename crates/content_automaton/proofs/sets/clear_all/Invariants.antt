use Rattle.std.proofs.Common.{◌≡◌, ℕ, ◌<◌, [], map, length}
use Rattle.std.specs.Prelude.{slice_index_or}
use Rattle.content_automaton.proofs.sets.clear_all.Given as goal

abbrev pub invariant-loop-n : goal.invariant-loop-n
invariant-loop-n l = record {
  empty : (k : ℕ) → k < l.n → slice_index_or (map (λ set. set.items) l.sets.items) k [] ≡ [];
  count : length l.sets.items ≡ length l.initial.sets.items;
}
