use Rattle.std.proofs.Common.{ℕ, ◌-◌, ◌≤◌, ◌<◌, length, get_or}
use Rattle.xs_positions.specs.Sets.{IsWithin}
use Rattle.xs_positions.proofs.sets.end_within.Given as goal

abbrev pub invariant-within : goal.invariant-within
invariant-within l = record {
  low : l.start ≤ l.place;
  high : l.place ≤ length l.numbers;
  within : (k : ℕ) → l.start ≤ k → k < l.place → IsWithin l.span (get_or l.numbers k 0);
}

abbrev pub decreases-within : goal.decreases-within
decreases-within l = length l.numbers - l.place
