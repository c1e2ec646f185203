use Rattle.std.proofs.Common.{◌≡◌, ◌≤◌, ℕ, length}
use Rattle.reference_faults.specs.Imports.{origin_at}
use Rattle.reference_faults.proofs.imports.skip_to.Given as goal

abbrev pub invariant-skip : goal.invariant-skip
invariant-skip l = (p : ℕ) → l.place ≤ p → origin_at l.rest p ≡ origin_at l.origins p

abbrev pub decreases-skip : goal.decreases-skip
decreases-skip l = length l.rest
