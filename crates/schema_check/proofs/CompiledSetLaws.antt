-- The phases of a set from those of its names and of its components.
use Rattle.std.specs.Prelude.{IfOk}
use Rattle.std.proofs.Common.{◌≡◌, ℕ, inl, List, [], ◌∷◌, Option, None, Some, Result, Ok, Err, ap, sym, subst, ◌∙◌}
use Rattle.xs_codes.specs.declared.fault.Fault.{Fault}
use Rattle.xs_components.specs.Tables.{Tables}
use Rattle.xs_codes.specs.Least.{IsLeast}
use Rattle.xs_names.specs.Names.{NameTable, no_names}
use Rattle.set_representations.specs.Documents.{set_table}
use Rattle.schema_set.specs.declared.documents.SetDocument.{SetDocument}
use Rattle.representations.specs.declared.source.Source.{Source}
use Rattle.build_components.specs.Built.{built}
use Rattle.schema_check.specs.Components.{all_names, IsBuilt, IsNameFault, AreComponents, AreRedefining}
use Rattle.schema_check.specs.declared.building.BuiltSet.{BuiltSet}
use Rattle.schema_check.specs.Phases.{IsFirstOfPhases}
use Rattle.schema_check.specs.SetPhases.{names, name_phase, AreParts, AreRedefiningGroups, set_phases, base_phase, type_phase, part_phases, by_components, IsSetCompiled}
use Rattle.schema_check.specs.declared.documents.CompiledSet.{CompiledSet}
use Rattle.schema_check.specs.inside.Typed.{ArePartsCompiled}
use Rattle.schema_check.proofs.PhaseLaws.{after-one, first-implied}

module _ (set : List SetDocument) (originals : List (Option ℕ)) (t : NameTable) (same : t ≡ set_table no_names set) where
  pub unnamed : (fault : Fault) → IsBuilt t set originals (Err fault) → name_phase set originals (Some fault)
  unfolding name_phase
  unnamed fault built = subst (λ (x : NameTable). IsLeast (IsNameFault x set originals) (Some fault)) same built

  named : (made : BuiltSet) → IsBuilt t set originals (Ok made) → name_phase set originals None × AreParts set originals made.parts × AreRedefiningGroups set originals made.redefined
  unfolding name_phase AreParts AreRedefiningGroups
  named made built = (
    subst (λ (x : NameTable). IsLeast (IsNameFault x set originals) None) same built.0,
    subst (λ (x : NameTable). AreComponents x set originals made.parts) same built.1,
    subst (λ (x : NameTable). AreRedefining x set originals made.redefined) same built.2,
  )

  -- the names of the documents and of originals
  all-named : (u : NameTable) → u ≡ all_names t set originals → u ≡ names set originals
  unfolding names
  all-named u is = is ∙ ap (λ (x : NameTable). all_names x set originals) same

-- the phases that look at the components
component-phases : (set : List SetDocument) (originals : List (Option ℕ)) (parts : Tables) (found : Option Fault) → AreParts set originals parts → IsFirstOfPhases (part_phases parts) found
    → IsFirstOfPhases (by_components set originals base_phase ∷ by_components set originals type_phase ∷ []) found
component-phases set originals parts found are first = first-implied (part_phases parts) (by_components set originals base_phase ∷ by_components set originals type_phase ∷ []) found
    ((λ f h. (parts, are, h)), ((λ f h. (parts, are, h)), tt)) first

all-phases : (set : List SetDocument) (originals : List (Option ℕ)) (parts : Tables) (found : Option Fault) → name_phase set originals None × AreParts set originals parts → IsFirstOfPhases (part_phases parts) found
    → IsFirstOfPhases (set_phases set originals) found
all-phases set originals parts found b first =
    after-one (name_phase set originals) (by_components set originals base_phase ∷ by_components set originals type_phase ∷ []) found b.0 (component-phases set originals parts found b.1 first)

parts-compiled : {E : Type 0} (result : Result (Result CompiledSet Fault) E) (set : List SetDocument) (originals : List (Option ℕ)) (u : NameTable) (whole : BuiltSet) → u ≡ names set originals
    → name_phase set originals None × AreParts set originals whole.parts × AreRedefiningGroups set originals whole.redefined → IfOk result (ArePartsCompiled u whole.redefined whole.parts) → IfOk result (IsSetCompiled set originals)
parts-compiled (Ok (Ok made)) set originals u whole same b compiled =
    (all-phases set originals whole.parts None (b.0, b.1) compiled.2.0, (compiled.0 ∙ same, whole.parts, b.1, compiled.2.1, subst (AreRedefiningGroups set originals) (sym compiled.1) b.2))
parts-compiled (Ok (Err fault)) set originals u whole same b compiled = all-phases set originals whole.parts (Some fault) (b.0, b.1) compiled
parts-compiled (Err e) set originals u whole same b compiled = compiled

pub set-compiled : {E : Type 0} (result : Result (Result CompiledSet Fault) E) (set : List SetDocument) (originals : List (Option ℕ)) (t u : NameTable) (whole : BuiltSet) → t ≡ set_table no_names set
    → u ≡ all_names t set originals → IsBuilt t set originals (Ok whole) → IfOk result (ArePartsCompiled u whole.redefined whole.parts) → IfOk result (IsSetCompiled set originals)
set-compiled result set originals t u whole same table built compiled =
    parts-compiled result set originals u whole (all-named set originals t same u table) (named set originals t same whole built) compiled

pub set-unnamed : (set : List SetDocument) (originals : List (Option ℕ)) (t : NameTable) (fault : Fault) → t ≡ set_table no_names set → IsBuilt t set originals (Err fault) → IsSetCompiled set originals (Err fault)
set-unnamed set originals t fault same built = inl (unnamed set originals t same fault built)

-- the names of documents before which no names were there
pub first-names : (set : List SetDocument) (none : NameTable) → none ≡ no_names → set_table none set ≡ set_table no_names set
first-names set none empty = ap (λ (x : NameTable). set_table x set) empty

-- what the components are built from
pub source-of : (t : NameTable) (set : List SetDocument) (originals : List (Option ℕ)) (whole : BuiltSet) (answer : Result BuiltSet Fault) → answer ≡ Ok whole → IsBuilt t set originals answer → (source : Source) × (whole.parts ≡ built source)
source-of t set originals whole (Ok other) is b =
    (b.1.0, (let e : ◌≡◌ {A = Result BuiltSet Fault} (Ok other) (Ok whole) = is in let same : other ≡ whole = cc in ap (λ (w : BuiltSet). w.parts) (sym same) ∙ b.1.4))
source-of t set originals whole (Err fault) is b = absurd (let e : ◌≡◌ {A = Result BuiltSet Fault} (Err fault) (Ok whole) = is in cc)
