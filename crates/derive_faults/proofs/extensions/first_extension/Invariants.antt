use Rattle.std.proofs.Common.{◌≤◌, ◌-◌, length}
use Rattle.xs_codes.specs.Least.{IsLeast}
use Rattle.derive_faults.specs.TypeFaults.{IsFaultBelow}
use Rattle.derive_faults.specs.Extensions.{Breaks}
use Rattle.derive_faults.proofs.extensions.first_extension.Given as goal

abbrev pub invariant-loop-id : goal.invariant-loop-id
invariant-loop-id l = (l.number ≤ length l.parts.complexes.parts) × IsLeast (IsFaultBelow 7 l.parts (Breaks l.parts) l.number) l.best

abbrev pub decreases-loop-id : goal.decreases-loop-id
decreases-loop-id l = length l.parts.complexes.parts - l.number
