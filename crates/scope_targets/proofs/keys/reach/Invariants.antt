use Rattle.std.proofs.Common.{◌≡◌, ℕ, ◌-◌, ◌+◌, length}
use Rattle.key_records.specs.Tables.{parent_in}
use Rattle.scope_targets.proofs.keys.reach.Given as goal

abbrev pub invariant-short : goal.invariant-short
invariant-short l = (m : ℕ) → parent_in l.parents.items m ≡ parent_in l.initial.parents.items m

abbrev pub decreases-short : goal.decreases-short
decreases-short l = (l.number + 1) - length l.parents.items
