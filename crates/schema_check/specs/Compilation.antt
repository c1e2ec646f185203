-- What becomes of schema documents: the set that one of them leads to, compiled, or the first broken constraint.
use Rattle.std.specs.Prelude.{◌≡◌, ◌⊎◌, ℕ, List, [], ◌∷◌, Option, None, Some, Result, Ok, Err}
use Rattle.xs_codes.specs.declared.fault.Fault.{Fault}
use Rattle.xs_codes.specs.Least.{IsLeast}
use Rattle.schema_set.specs.declared.documents.Available.{Available}
use Rattle.schema_set.specs.declared.inputs.SchemaInput.{SchemaInput}
use Rattle.schema_set.specs.Documents.{available, IsSet, IsShapeFault}
use Rattle.schema_set.specs.Composition.{Broken as IsCompositionFault}
use Rattle.redefine_faults.specs.Redefinitions.{IsRedefineFault}
use Rattle.redefine_originals.specs.Originals.{AreOriginals}
use Rattle.schema_set.specs.declared.documents.SetDocument.{SetDocument}
use Rattle.schema_check.specs.declared.documents.CompiledSet.{CompiledSet}
use Rattle.schema_check.specs.Phases.{IsFirstOfPhases}
use Rattle.schema_check.specs.SetPhases.{name_phase, by_components, base_phase, type_phase, IsSetCompiled}

-- what the documents of the set say of others by include, import and redefine, or what stands in a redefine, breaks a constraint
-- (Structures 4.2)
abbrev pub BreaksComposition : List Available → ℕ → Fault → Type 0
BreaksComposition sources start f = IsCompositionFault sources start f ⊎ IsRedefineFault sources start f

-- the set starts at the document of this place
module _ (documents : List SchemaInput) (start : ℕ) where
  -- phase 1: the shapes of the documents of the set
  unfoldable pub shape_phase : Option Fault → Type 0
  shape_phase found = IsLeast (IsShapeFault documents start) found

  -- phase 2: how the documents of the set are composed
  unfoldable pub composition_phase : Option Fault → Type 0
  composition_phase found = IsLeast (BreaksComposition (available documents) start) found

  -- a phase that looks at the documents of the set, and at the originals of what they redefine
  abbrev pub by_set : (List SetDocument → List (Option ℕ) → Option Fault → Type 0) → Option Fault → Type 0
  by_set phase found =
      (set : List SetDocument) × (originals : List (Option ℕ)) × IsSet documents start set × AreOriginals (available documents) set originals × phase set originals found

  abbrev pub later_phases : List (Option Fault → Type 0)
  later_phases =
      composition_phase ∷ by_set name_phase ∷ by_set (λ set originals. by_components set originals base_phase) ∷ by_set (λ set originals. by_components set originals type_phase) ∷ []

  -- the phases up to simple types: shapes, composition, names, bases, simple types
  abbrev pub phases : List (Option Fault → Type 0)
  phases = shape_phase ∷ later_phases

  -- the compiled set where no phase has a fault, else the first fault of the first phase that has one
  abbrev pub IsCompilation : Result CompiledSet Fault → Type 0
  IsCompilation (Ok made) =
      IsFirstOfPhases phases None × (set : List SetDocument) × (originals : List (Option ℕ)) × IsSet documents start set × AreOriginals (available documents) set originals
      × IsSetCompiled set originals (Ok made)
  IsCompilation (Err fault) = IsFirstOfPhases phases (Some fault)
