-- The records of attributes by tables that have their names and types.
use Rattle.std.specs.Prelude.{◌<◌, IfSome, length}
use Rattle.xs_names.specs.Names.{NameTable}
use Rattle.xs_components.specs.Tables.{Tables}
use Rattle.component_references.specs.Heights.{IsType}
use Rattle.assess_records.specs.declared.record.AttrRecord.{AttrRecord}

-- the name is a number of the table of names, and the type is a built-in one or one of the tables
pub record IsThere (names : NameTable) (t : Tables) (r : AttrRecord) : Type 0 where
  pub named : r.name < length names.names
  pub typed : IfSome r.of (IsType t)
