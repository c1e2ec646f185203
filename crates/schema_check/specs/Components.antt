-- The components of a schema set by its documents, and the faults that keep them from being built.
use Rattle.std.specs.Prelude.{◌≡◌, ◌⊎◌, ℕ, List, Option, None, Some, Result, Ok, Err}
use Rattle.xs_codes.specs.declared.fault.Fault.{Fault}
use Rattle.xs_components.specs.Tables.{Tables}
use Rattle.xs_codes.specs.Least.{IsLeast}
use Rattle.xs_names.specs.Names.{NameTable}
use Rattle.schema_set.specs.declared.documents.SetDocument.{SetDocument}
use Rattle.representations.specs.declared.origins.Origin.{Origin}
use Rattle.representations.specs.declared.parts.Representation.{Representation}
use Rattle.representations.specs.declared.source.Source.{Source}
use Rattle.representations.specs.Names.{spaces_of}
use Rattle.set_representations.specs.Documents.{representations, scopes, origins}
use Rattle.redefine_names.specs.VersionNames.{with_versions}
use Rattle.redefine_names.specs.Renamed.{renamed}
use Rattle.redefine_names.specs.Groups.{AreRedefined}
use Rattle.redefine_names.specs.declared.groups.RedefinedGroups.{RedefinedGroups}
use Rattle.redefine_names.specs.Shared.{IsShared}
use Rattle.reference_faults.specs.Faults.{IsBroken}
use Rattle.build_components.specs.Built.{built}
use Rattle.schema_check.specs.declared.building.BuiltSet.{BuiltSet}

-- Structures 3.15.1: the components of what elements represent, names by the symbol spaces, texts in these scopes
abbrev pub AreOf : List Representation → List (List (List ℕ × ℕ)) → Tables → Type 0
AreOf reps scopes parts = (source : Source) × (source.reps.now ≡ reps) × (source.spaces.now ≡ spaces_of reps) × (source.scopes.now ≡ scopes) × (parts ≡ built source)

-- a constraint on names and references, or that no two redefining components have one original
abbrev pub IsFault : NameTable → List Origin → List Representation → List (Option ℕ) → Fault → Type 0
IsFault t origins reps originals fault = IsShared reps originals fault ⊎ IsBroken t origins reps fault

-- the components, and the groups and attribute groups that redefine others without a reference to themselves, where no such constraint
-- is broken, else the first that is
abbrev pub IsMade : NameTable → List Origin → List Representation → List (Option ℕ) → List (List (List ℕ × ℕ)) → Result BuiltSet Fault → Type 0
IsMade t origins reps originals scopes (Ok made) = IsLeast (IsFault t origins reps originals) None × AreOf reps scopes made.parts × AreRedefined reps originals made.redefined
IsMade t origins reps originals scopes (Err fault) = IsLeast (IsFault t origins reps originals) (Some fault)

-- of a set of documents, whose names are in the table, and of the originals of what they redefine, by places
module _ (t : NameTable) (documents : List SetDocument) (originals : List (Option ℕ)) where
  -- the names of originals behind those of the documents
  abbrev pub all_names : NameTable
  all_names = with_versions t (representations t documents) originals

  -- what the elements represent, the versions of redefined components apart
  abbrev pub versions : List Representation
  versions = renamed all_names (representations t documents) originals

  -- sch-props-correct.2, x-limit.components, no-xmlns, no-xsi, src-resolve and src-resolve.4
  abbrev pub IsNameFault : Fault → Type 0
  IsNameFault fault = IsFault all_names (origins t documents) versions originals fault

  -- the groups and attribute groups that redefine others without a reference to themselves
  abbrev pub AreRedefining : RedefinedGroups → Type 0
  AreRedefining redefined = AreRedefined versions originals redefined

  abbrev pub AreComponents : Tables → Type 0
  AreComponents parts = AreOf versions (scopes t documents) parts

  -- Structures 3.15.1, 3.15.3: the components, or the first fault of names and references
  abbrev pub IsBuilt : Result BuiltSet Fault → Type 0
  IsBuilt answer = IsMade all_names (origins t documents) versions originals (scopes t documents) answer
