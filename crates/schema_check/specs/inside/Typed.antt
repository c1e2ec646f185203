-- What judging the components of a set comes to, and what a set whose documents are of the right shape does.
use Rattle.std.specs.Prelude.{◌≡◌, ◌⊎◌, ℕ, List, Option, None, Some, Result, Ok, Err}
use Rattle.xs_codes.specs.declared.fault.Fault.{Fault}
use Rattle.xs_components.specs.Tables.{Tables}
use Rattle.xs_codes.specs.Least.{IsLeast}
use Rattle.xs_names.specs.Names.{NameTable}
use Rattle.simple_types.specs.declared.types.SimpleTypes.{SimpleTypes}
use Rattle.redefine_names.specs.declared.groups.RedefinedGroups.{RedefinedGroups}
use Rattle.schema_set.specs.declared.documents.Available.{Available}
use Rattle.redefine_originals.specs.Originals.{AreOriginals}
use Rattle.schema_set.specs.declared.documents.SetDocument.{SetDocument}
use Rattle.schema_check.specs.declared.documents.CompiledSet.{CompiledSet}
use Rattle.schema_check.specs.Phases.{IsFirstOfPhases}
use Rattle.schema_check.specs.SetPhases.{part_phases, IsReady, IsSetCompiled}
use Rattle.schema_check.specs.Compilation.{BreaksComposition}

abbrev pub IsTyped : Tables → Tables → Result SimpleTypes Fault → Type 0
IsTyped old new (Ok types) = IsFirstOfPhases (part_phases old) None × IsReady old new types
IsTyped old new (Err fault) = IsFirstOfPhases (part_phases old) (Some fault)

abbrev pub ArePartsCompiled : NameTable → RedefinedGroups → Tables → Result CompiledSet Fault → Type 0
ArePartsCompiled t redefined parts (Ok made) = (made.names ≡ t) × (made.redefined ≡ redefined) × IsTyped parts made.parts (Ok made.types)
ArePartsCompiled t redefined parts (Err fault) = IsFirstOfPhases (part_phases parts) (Some fault)

-- a set without a fault of phases 1 and 2
abbrev pub IsComposedCompiled : List Available → List SetDocument → Result CompiledSet Fault → Type 0
IsComposedCompiled available set answer = (originals : List (Option ℕ)) × AreOriginals available set originals × IsSetCompiled set originals answer

-- the first fault of how the documents are composed, if there is one
abbrev pub IsComposed : List Available → ℕ → Option Fault → Type 0
IsComposed available start found = IsLeast (BreaksComposition available start) found

-- a set whose documents are of the right shape
abbrev pub IsClosedCompiled : List Available → ℕ → List SetDocument → Result CompiledSet Fault → Type 0
IsClosedCompiled available start set (Ok made) =
    IsComposed available start None × (originals : List (Option ℕ)) × AreOriginals available set originals × IsSetCompiled set originals (Ok made)
IsClosedCompiled available start set (Err fault) =
    IsComposed available start (Some fault) ⊎ (IsComposed available start None × (originals : List (Option ℕ)) × AreOriginals available set originals × IsSetCompiled set originals (Err fault))
