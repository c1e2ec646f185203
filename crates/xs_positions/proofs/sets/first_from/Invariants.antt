use Rattle.std.proofs.Common.{◌-◌, ◌≤◌, length}
use Rattle.xs_positions.proofs.sets.first_from.Given as goal

abbrev pub invariant-below : goal.invariant-below
invariant-below l = l.place ≤ length l.numbers

abbrev pub decreases-below : goal.decreases-below
decreases-below l = length l.numbers - l.place
