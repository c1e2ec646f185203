use Rattle.std.proofs.Common.{◌≡◌, ◌≤◌, ℕ}
use Rattle.xs_codes.specs.Least.{IsLeast}
use Rattle.reference_faults.specs.Imports.{origin_at}
use Rattle.reference_faults.proofs.CodeLaws.{FaultBelow}
use Rattle.reference_faults.proofs.faults.first_of.Given as goal

abbrev pub invariant-loop-place : goal.invariant-loop-place
invariant-loop-place l = record {
  rest : (p : ℕ) → l.place ≤ p → origin_at l.rest p ≡ origin_at l.origins p;
  least : IsLeast (FaultBelow l.names l.origins l.reps l.place) l.best;
}
