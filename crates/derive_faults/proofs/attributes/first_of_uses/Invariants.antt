use Rattle.std.proofs.Common.{◌≡◌}
use Rattle.xs_codes.specs.Least.{IsLeast}
use Rattle.derive_faults.specs.TypeFaults.{IsBelow}
use Rattle.derive_faults.specs.Attributes.{IsUseAt}
use Rattle.derive_faults.proofs.attributes.first_of_uses.Given as goal

abbrev pub invariant-loop-part : goal.invariant-loop-part
invariant-loop-part l = record {
  same : l.types ≡ l.fn.types;
  least : IsLeast (IsBelow (IsUseAt l.set.parts.now l.uses) l.part-index) l.best;
}
