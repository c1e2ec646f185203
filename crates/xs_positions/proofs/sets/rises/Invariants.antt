use Rattle.std.proofs.Common.{ℕ, ◌+◌, ◌-◌, ◌≤◌, ◌<◌, length, get_or}
use Rattle.xs_positions.proofs.sets.rises.Given as goal

abbrev pub invariant-rising : goal.invariant-rising
invariant-rising l = record {
  low : 1 ≤ l.place;
  so_far : (k : ℕ) → k + 1 < l.place → k + 1 < length l.numbers → get_or l.numbers k 0 < get_or l.numbers (k + 1) 0;
}

abbrev pub decreases-rising : goal.decreases-rising
decreases-rising l = length l.numbers - l.place
