use Rattle.std.proofs.Common.{◌≤◌, ◌-◌, List, Bool, length}
use Rattle.xs_codes.specs.Least.{IsLeast}
use Rattle.attr_uses.specs.Tables.{AreTablesOf}
use Rattle.derive_faults.specs.TypeFaults.{IsBelow}
use Rattle.derive_faults.specs.AttrFaults.{IsTypeAt}
use Rattle.derive_faults.proofs.faults.first_of_types.Given as goal

abbrev pub invariant-loop-id : goal.invariant-loop-id
invariant-loop-id l = record {
  few : l.number ≤ length l.parts.complexes.parts;
  least : (ids : List Bool) → AreTablesOf l.parts ids l.tables → IsLeast (IsBelow (IsTypeAt l.parts ids) l.number) l.best;
}

abbrev pub decreases-loop-id : goal.decreases-loop-id
decreases-loop-id l = length l.parts.complexes.parts - l.number
