-- The phases that look at a set of documents whose shapes are right, and what a set without a fault is compiled to.
use Rattle.std.specs.Prelude.{◌≡◌, ℕ, List, [], ◌∷◌, Option, None, Some, Result, Ok, Err}
use Rattle.xs_codes.specs.declared.fault.Fault.{Fault}
use Rattle.xs_names.specs.Names.{NameTable, no_names}
use Rattle.xs_components.specs.Tables.{Tables}
use Rattle.xs_codes.specs.Least.{IsLeast}
use Rattle.component_references.specs.Ranked.{IsRanked}
use Rattle.type_derivation.specs.Cycles.{IsBroken}
use Rattle.type_derivation.specs.Particles.{AreContentsSet}
use Rattle.simple_types.specs.declared.types.SimpleTypes.{SimpleTypes}
use Rattle.simple_types.specs.SimpleTypes.{AreTypesOf, AreWhole}
use Rattle.schema_check.specs.Completed.{AreCompleted, IsFirstTypeFault}
use Rattle.redefine_names.specs.declared.groups.RedefinedGroups.{RedefinedGroups}
use Rattle.schema_set.specs.declared.documents.SetDocument.{SetDocument}
use Rattle.set_representations.specs.Documents.{set_table}
use Rattle.schema_check.specs.Components.{all_names, IsNameFault, AreComponents, AreRedefining}
use Rattle.schema_check.specs.declared.documents.CompiledSet.{CompiledSet}
use Rattle.schema_check.specs.Phases.{IsFirstOfPhases}

-- phase 4, of components: circular definitions, and bases of the wrong kind (Structures 3.3.6, 3.4.3, 3.4.6, 3.6.3, 3.8.6, 3.14.6)
abbrev pub base_phase : Tables → Option Fault → Type 0
base_phase parts found = IsLeast (IsBroken parts) found

-- phase 5, of the components that phase 4 leaves: simple types and facets (Structures 3.14.6; Datatypes 4.3)
abbrev pub type_phase : Tables → Option Fault → Type 0
type_phase parts found = IsFirstTypeFault parts found

abbrev pub part_phases : Tables → List (Option Fault → Type 0)
part_phases parts = base_phase parts ∷ type_phase parts ∷ []

-- the components as phase 4 leaves them, with their heights as ranks, contents, and the particles that these add; and their simple types
pub record IsReady (parts new : Tables) (types : SimpleTypes) : Type 0 where
  pub same : AreCompleted parts new
  pub ranked : IsRanked new
  pub contents : AreContentsSet new
  pub judged : AreTypesOf new types
  pub whole : AreWhole new types

-- of the documents of a set, and of the originals of what they redefine, by the places of their elements
module _ (set : List SetDocument) (originals : List (Option ℕ)) where
  -- the names that stand in them, and those of originals
  unfoldable pub names : NameTable
  names = all_names (set_table no_names set) set originals

  -- phase 3: names and references
  unfoldable pub name_phase : Option Fault → Type 0
  name_phase found = IsLeast (IsNameFault (set_table no_names set) set originals) found

  -- the components of the set
  unfoldable pub AreParts : Tables → Type 0
  AreParts parts = AreComponents (set_table no_names set) set originals parts

  -- the groups and attribute groups that redefine others without a reference to themselves
  unfoldable pub AreRedefiningGroups : RedefinedGroups → Type 0
  AreRedefiningGroups redefined = AreRedefining (set_table no_names set) set originals redefined

  -- a phase that looks at the components of the set
  abbrev pub by_components : (Tables → Option Fault → Type 0) → Option Fault → Type 0
  by_components phase found = (parts : Tables) × AreParts parts × phase parts found

  abbrev pub set_phases : List (Option Fault → Type 0)
  set_phases = name_phase ∷ by_components base_phase ∷ by_components type_phase ∷ []

  abbrev pub IsCompiled : CompiledSet → Type 0
  IsCompiled made = (made.names ≡ names) × (parts : Tables) × AreParts parts × IsReady parts made.parts made.types × AreRedefiningGroups made.redefined

  -- the compiled set, or the first fault of the first phase that has one
  abbrev pub IsSetCompiled : Result CompiledSet Fault → Type 0
  IsSetCompiled (Ok made) = IsFirstOfPhases set_phases None × IsCompiled made
  IsSetCompiled (Err fault) = IsFirstOfPhases set_phases (Some fault)
