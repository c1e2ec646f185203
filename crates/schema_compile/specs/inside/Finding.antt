-- What is found of the components of a set, for content models and for assessing.
use Rattle.std.specs.Prelude.{◌≡◌, ℕ, ◌<◌, Bool, List, [], ◌∷◌, Option, None, Some, Result, Ok, Err, length}
use Rattle.xs_codes.specs.declared.fault.Fault.{Fault}
use Rattle.xs_components.specs.Tables.{Tables}
use Rattle.xs_codes.specs.Least.{IsLeast}
use Rattle.derive_faults.specs.AttrFaults.{AreIdMarks}
use Rattle.attr_uses.specs.Tables.{AreTablesOf}
use Rattle.attr_uses.specs.declared.tables.AttrTables.{AttrTables}
use Rattle.attr_assess.specs.declared.known.KnownUses.{KnownUses}
use Rattle.component_tables.specs.Types.{AreDeclarationsOf}
use Rattle.element_declarations.specs.Groups.{AreGroups}
use Rattle.element_declarations.specs.Classes.{AreClassesOf}
use Rattle.component_tables.specs.Named.{spaces_of}
use Rattle.component_tables.specs.ContentTypes.{AreContentsOf}
use Rattle.content_models.specs.declared.automaton.ContentAutomaton.{ContentAutomaton}
use Rattle.schema_models.specs.SetModels.{content_of, AreModels, IsBroken}
use Rattle.schema_check.specs.Phases.{IsFirstOfPhases}
use Rattle.schema_check.specs.declared.documents.CompiledSet.{CompiledSet}
use Rattle.compiled_schema.specs.declared.compiled.Compiled.{Compiled}
use Rattle.xpath_subset.specs.Reads.{AreIdentities}
use Rattle.schema_compile.specs.declared.finding.Found.{Found}
use Rattle.schema_compile.specs.declared.finding.Faultless.{Faultless}
use Rattle.schema_compile.specs.Outcomes.{attr_phase, derivation_phase, late_phases}

-- the attribute uses of all complex types and attribute groups, with the marks of types of IDs
pub record AreAttrUses (t : Tables) (tables : AttrTables) : Type 0 where
  pub ids : List Bool
  pub marks : AreIdMarks t ids
  pub are : AreTablesOf t ids tables

pub record IsFound (t : Tables) (found : Found) : Type 0 where
  pub declarations : AreDeclarationsOf t found.declarations
  pub members : AreGroups t found.members
  pub classes : AreClassesOf t found.classes.items
  pub named : found.named ≡ spaces_of t
  pub attr_uses : AreAttrUses t found.attr_uses
  pub contents : AreContentsOf t found.contents

-- the phases behind simple types, but for content models
abbrev pub early_phases : CompiledSet → List (Option Fault → Type 0)
early_phases made = attr_phase made ∷ derivation_phase made ∷ []

-- the automata of the content models, or the first fault of one
abbrev pub AreModelsOf : CompiledSet → Found → Result (List (Option ContentAutomaton)) Fault → Type 0
AreModelsOf made found (Ok models) =
    IsLeast (IsBroken made.names made.parts found.members found.classes.items) None × AreModels made.names made.parts found.members found.classes.items models
AreModelsOf made found (Err fault) = IsLeast (IsBroken made.names made.parts found.members found.classes.items) (Some fault)

-- the particle of each content is there, and no other type has one
pub record AreContentsThere (t : Tables) : Type 0 where
  pub each : length t.contents ≡ length t.complexes.parts
  pub there : (n p : ℕ) → content_of t n ≡ Some p → p < length t.particles.parts

-- the set with what was found of it
abbrev pub joined : CompiledSet → Faultless → KnownUses → Compiled
joined made whole known = record {
  names = made.names;
  parts = made.parts;
  types = made.types;
  members = whole.found.members;
  classes = whole.found.classes;
  declarations = whole.found.declarations;
  named = whole.found.named;
  attr_uses = whole.found.attr_uses;
  known_uses = known;
  contents = whole.found.contents;
  models = whole.models;
  identities = whole.identities;
}

-- what is found of a set without a fault, its automata and its paths; or the first fault
abbrev pub IsJudged : CompiledSet → Result Faultless Fault → Type 0
IsJudged made (Ok whole) =
    IsFirstOfPhases (late_phases made) None × IsFound made.parts whole.found × AreModelsOf made whole.found (Ok whole.models) × AreContentsThere made.parts ×
    AreIdentities made.parts whole.identities.items
IsJudged made (Err fault) = IsFirstOfPhases (late_phases made) (Some fault)
