use Rattle.std.proofs.Common.{◌≡◌, ℕ, [], length}
use Rattle.std.specs.Prelude.{slice_index_or}
use Rattle.facet_checks.proofs.values.empty_buckets.Given as goal

abbrev pub invariant-loop : goal.invariant-loop
invariant-loop l = record {
  empty : (b : ℕ) → slice_index_or l.buckets.items b [] ≡ [];
  count : length l.buckets.items ≡ l.counter;
}
