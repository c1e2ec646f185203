use Rattle.std.proofs.Common.{◌≤◌, ◌-◌, ℕ, List, length}
use Rattle.xs_codes.specs.Least.{IsLeast}
use Rattle.derive_faults.specs.TypeFaults.{IsFaultBelow}
use Rattle.derive_models.specs.Standing.{AreStanding}
use Rattle.derive_models.specs.ModelRestrictions.{Breaks}
use Rattle.derive_models.proofs.restriction_faults.first_fault.Given as goal

abbrev pub invariant-loop-id : goal.invariant-loop-id
invariant-loop-id g l = record {
  few : l.number ≤ length l.set.parts.now.complexes.parts;
  least : (members : List (List ℕ)) → AreStanding l.set.parts.now members l.set.stands_for.now →
      IsLeast (IsFaultBelow 9 l.set.parts.now (Breaks l.set.parts.now members l.set.terms.now (g.T.Derivation.derives l.set.types.now)) l.number) l.best;
}

abbrev pub decreases-loop-id : goal.decreases-loop-id
decreases-loop-id g l = length l.set.parts.now.complexes.parts - l.number
