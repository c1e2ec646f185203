-- The phases of documents from those of the documents alone and from those of the set.
use Rattle.std.specs.Prelude.{IfOk}
use Rattle.std.proofs.Common.{◌≡◌, ◌⊎◌, inl, inr, ℕ, List, ◌∷◌, [], Option, None, Some, Result, Ok, Err, subst}
use Rattle.xs_codes.specs.declared.fault.Fault.{Fault}
use Rattle.xs_codes.specs.Least.{IsLeast}
use Rattle.schema_set.specs.declared.documents.Available.{Available}
use Rattle.redefine_originals.specs.Originals.{AreOriginals}
use Rattle.schema_set.specs.declared.documents.SetDocument.{SetDocument}
use Rattle.schema_set.specs.declared.inputs.SchemaInput.{SchemaInput}
use Rattle.schema_set.specs.Documents.{available, IsSet, IsShapeFault}
use Rattle.schema_check.specs.declared.documents.CompiledSet.{CompiledSet}
use Rattle.schema_check.specs.Phases.{IsFirstOfPhases}
use Rattle.schema_check.specs.SetPhases.{name_phase, base_phase, type_phase, by_components, set_phases, IsSetCompiled}
use Rattle.schema_check.specs.Compilation.{by_set, shape_phase, composition_phase, later_phases, IsCompilation}
use Rattle.schema_check.specs.inside.Typed.{IsComposed, IsComposedCompiled, IsClosedCompiled}
use Rattle.schema_check.proofs.PhaseLaws.{after-one, first-implied}

pub composed-set : {E : Type 0} (result : Result (Result CompiledSet Fault) E) (available : List Available) (set : List SetDocument) (originals : List (Option ℕ)) → AreOriginals available set originals
    → IfOk result (IsSetCompiled set originals) → IfOk result (IsComposedCompiled available set)
composed-set (Ok answer) available set originals of h = (originals, of, h)
composed-set (Err e) available set originals of h = h

-- a set without a fault of phase 2
pub composed : {E : Type 0} (result : Result (Result CompiledSet Fault) E) (available : List Available) (start : ℕ) (set : List SetDocument) → IsComposed available start None
    → IfOk result (IsComposedCompiled available set) → IfOk result (IsClosedCompiled available start set)
composed (Ok (Ok made)) available start set none h = (none, h.0, h.1, h.2)
composed (Ok (Err fault)) available start set none h = inr (none, h.0, h.1, h.2)
composed (Err e) available start set none h = h

module _ (documents : List SchemaInput) (start : ℕ) where
  pub shape-phase : (found : Option Fault) → IsLeast (IsShapeFault documents start) found → shape_phase documents start found
  unfolding shape_phase
  shape-phase found least = least

  composition-phase : (found : Option Fault) → IsComposed (available documents) start found → composition_phase documents start found
  unfolding composition_phase
  composition-phase found least = least

  pub shape-refused : (fault : Fault) → shape_phase documents start (Some fault) → IsCompilation documents start (Err fault)
  shape-refused fault is = inl is

  module _ (set : List SetDocument) (of : IsSet documents start set) (shaped : shape_phase documents start None) where
    behind : (originals : List (Option ℕ)) (found : Option Fault) → AreOriginals (available documents) set originals → composition_phase documents start None → IsFirstOfPhases (set_phases set originals) found
        → IsFirstOfPhases (later_phases documents start) found
    behind originals found are none h =
        after-one (composition_phase documents start) (by_set documents start name_phase ∷ by_set documents start (λ s o. by_components s o base_phase) ∷ by_set documents start (λ s o. by_components s o type_phase) ∷ []) found none
        (first-implied (set_phases set originals) (by_set documents start name_phase ∷ by_set documents start (λ s o. by_components s o base_phase) ∷ by_set documents start (λ s o. by_components s o type_phase) ∷ []) found
        ((λ f p. (set, originals, of, are, p)), ((λ f p. (set, originals, of, are, p)), ((λ f p. (set, originals, of, are, p)), tt))) h)

    refused : (fault : Fault)
        → IsComposed (available documents) start (Some fault)
        ⊎ (IsComposed (available documents) start None × (originals : List (Option ℕ)) × AreOriginals (available documents) set originals × IsSetCompiled set originals (Err fault))
        → IsFirstOfPhases (later_phases documents start) (Some fault)
    refused fault (inl here) = inl (composition-phase (Some fault) here)
    refused fault (inr later) = behind later.1 (Some fault) later.2 (composition-phase None later.0) later.3

    pub closed-compiled : {E : Type 0} (result : Result (Result CompiledSet Fault) E) (shown : List Available) → shown ≡ available documents
        → IfOk result (IsClosedCompiled shown start set) → IfOk result (IsCompilation documents start)
    closed-compiled result shown same h = by-all result (subst (λ (l : List Available). IfOk result (IsClosedCompiled l start set)) same h)
      where
        by-all : {F : Type 0} (answer : Result (Result CompiledSet Fault) F) → IfOk answer (IsClosedCompiled (available documents) start set) → IfOk answer (IsCompilation documents start)
        by-all (Ok (Ok made)) k = ((shaped, behind k.1 None k.2 (composition-phase None k.0) k.3.0), set, k.1, of, k.2, k.3)
        by-all (Ok (Err fault)) k = inr (shaped, refused fault k)
        by-all (Err e) k = tt
