use Rattle.std.proofs.Common.{◌≡◌, ◌≤◌, ◌-◌, length}
use Rattle.xs_codes.specs.Least.{IsLeast}
use Rattle.derive_faults.specs.TypeFaults.{IsFaultBelow}
use Rattle.derive_restriction.specs.Restrictions.{Breaks}
use Rattle.derive_restriction.proofs.restrictions.first_restriction.Given as goal

abbrev pub invariant-loop-id : goal.invariant-loop-id
invariant-loop-id l = record {
  few : l.number ≤ length l.set.parts.now.complexes.parts;
  least : IsLeast (IsFaultBelow 7 l.set.parts.now (Breaks l.set.parts.now l.set.names.now) l.number) l.best;
  same : l.types ≡ l.fn.types;
}

abbrev pub decreases-loop-id : goal.decreases-loop-id
decreases-loop-id l = length l.set.parts.now.complexes.parts - l.number
