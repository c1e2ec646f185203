use Rattle.std.proofs.Common.{◌≡◌, ℕ, ◌-◌, ◌+◌, None, get_or, length}
use Rattle.kept_slots.proofs.slots.Slots.reach.Given as goal

abbrev pub invariant-loop-self : goal.invariant-loop-self
invariant-loop-self g l = (m : ℕ) → get_or l.self-inside.slots.items m None ≡ get_or l.initial.self-inside.slots.items m None

abbrev pub decreases-loop-self : goal.decreases-loop-self
decreases-loop-self g l = (l.number + 1) - length l.self-inside.slots.items
