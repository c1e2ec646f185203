-- What the attributes of elements are governed by.
use Rattle.std.specs.Prelude.{◌≡◌, List, Bool, Option, None, Some}
use Rattle.xs_components.specs.Tables.{Tables}
use Rattle.component_references.specs.Ranked.{IsRanked}
use Rattle.component_tables.specs.Named.{Spaces, spaces_of}
use Rattle.attr_uses.specs.Uses.{AttrUses, no_uses}
use Rattle.attr_uses.specs.Tables.{AreTablesOf, StandsFor}
use Rattle.attr_uses.specs.declared.store.KeptTable.{KeptTable}
use Rattle.attr_uses.specs.declared.store.Store.{Store}
use Rattle.attr_uses.specs.declared.tables.AttrTables.{AttrTables}

-- These were made of the components of one schema set, whose references go to lower ranks.
pub record IsAttrSet (t : Tables) (tops : Spaces) (ids : List Bool) (tables : AttrTables) : Type 0 where
  pub ranked : IsRanked t
  pub at_top : tops ≡ spaces_of t
  pub uses : AreTablesOf t ids tables

-- the table stands for the attribute uses, of which there are none without one
abbrev pub IsTableIf : Tables → List Bool → Store → Option KeptTable → AttrUses → Type 0
IsTableIf t ids store None value = value ≡ no_uses
IsTableIf t ids store (Some table) value = StandsFor t ids store table value
