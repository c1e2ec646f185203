use Rattle.std.proofs.Common.{◌≡◌, ◌≤◌, ◌-◌, length}
use Rattle.xs_codes.specs.Least.{IsLeast}
use Rattle.derive_faults.specs.TypeFaults.{IsBelow}
use Rattle.derive_faults.specs.Attributes.{IsTypeAt}
use Rattle.derive_faults.proofs.attributes.first_of_types.Given as goal

abbrev pub invariant-loop-id : goal.invariant-loop-id
invariant-loop-id l = record {
  few : l.number ≤ length l.set.parts.now.complexes.parts;
  same : l.types ≡ l.fn.types;
  least : IsLeast (IsBelow (IsTypeAt l.set.parts.now) l.number) l.best;
}

abbrev pub decreases-loop-id : goal.decreases-loop-id
decreases-loop-id l = length l.set.parts.now.complexes.parts - l.number
