use Rattle.std.proofs.Common.{◌≤◌, ◌-◌, length}
use Rattle.xs_codes.specs.Least.{IsLeast}
use Rattle.derive_faults.specs.Exclusions.{IsExcludedBelow}
use Rattle.derive_faults.proofs.exclusions.first_excluded.Given as goal

abbrev pub invariant-loop-element : goal.invariant-loop-element
invariant-loop-element l = (l.number ≤ length l.parts.elements.parts) × IsLeast (IsExcludedBelow l.parts l.number) l.best

abbrev pub decreases-loop-element : goal.decreases-loop-element
decreases-loop-element l = length l.parts.elements.parts - l.number
