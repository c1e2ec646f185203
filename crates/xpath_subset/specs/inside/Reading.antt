-- What the functions of the phase answer.
use Rattle.std.specs.Prelude.{◌≡◌, ℕ, List, None, Any}
use Rattle.std.specs.List.{AllZip}
use Rattle.xs_codes.specs.declared.code.Code.{Code}
use Rattle.xs_codes.specs.declared.code.Code.TheVariants.{CFieldsXpaths}
use Rattle.xs_components.specs.Tables.{Tables}
use Rattle.xs_components.specs.declared.constraint.Constraint.{Constraint}
use Rattle.xs_components.specs.declared.constraint.PathText.{PathText}
use Rattle.xs_codes.specs.Least.{IsLeast}
use Rattle.xpath_subset.specs.Grammar.{WrittenPaths, IsField}
use Rattle.xpath_subset.specs.Reads.{IsReadAs, ArePathsOf}
use Rattle.xpath_subset.specs.Faults.{IsUnreadable, IsFaultOf}
use Rattle.xpath_subset.specs.declared.fault_reading.PathReading.{PathReading}
use Rattle.xpath_subset.specs.declared.fault_reading.FieldsReading.{FieldsReading}
use Rattle.xpath_subset.specs.declared.phase.ConstraintReading.{ConstraintReading}

-- the fault of a path, and without one what it is read as
pub record IsPathRead (IsWritten : List ℕ → WrittenPaths → Type 0) (code : Code) (path : PathText) (reading : PathReading) : Type 0 where
  pub least : IsLeast (IsUnreadable IsWritten code path) reading.fault
  pub paths : reading.fault ≡ None → IsReadAs IsWritten path reading.paths

-- the least fault of fields, and without one what they are read as
pub record AreFieldsRead (fields : List PathText) (reading : FieldsReading) : Type 0 where
  pub least : IsLeast (λ fault. Any (λ path. IsUnreadable IsField CFieldsXpaths path fault) fields) reading.fault
  pub paths : reading.fault ≡ None → AllZip (IsReadAs IsField) fields reading.paths

-- the least fault of a constraint, and without one its paths
pub record IsConstraintRead (t : Tables) (c : Constraint) (reading : ConstraintReading) : Type 0 where
  pub least : IsLeast (IsFaultOf t c) reading.fault
  pub paths : reading.fault ≡ None → ArePathsOf c reading.paths
