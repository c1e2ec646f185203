-- The codes of contents.
use Rattle.std.proofs.Common.{◌≡◌, ◌↔◌, ◌⊎◌, inl, inr, ℕ, Bool, true, false, List, Option, None, Some, refl, sym, ap, ◌∙◌, subst}
use Rattle.std.specs.Prelude.{IsTrue, IfOk, IfSome, Result, not, ◌&&◌, is_some}
use Rattle.std.proofs.lemmas.Bool.{false≢true}
use Rattle.xs_codes.specs.declared.code.Code.{Code}
use Rattle.xs_components.specs.Tables.{Tables}
use Rattle.xs_components.specs.declared.common.TypeId.{TypeId}
use Rattle.xs_components.specs.declared.complex.ComplexType.{ComplexType}
use Rattle.xs_components.specs.declared.complex.ContentForm.{ContentForm}
use Rattle.xs_components.specs.declared.complex.ContentForm.TheVariants as forms
use Rattle.xs_components.specs.declared.simple.FacetItem.{FacetItem}
use Rattle.component_tables.specs.ContentTypes.{content_of}
use Rattle.component_references.specs.Heights.{IsType}
use Rattle.derive_restriction.specs.Contents.{IsTextDerived, IsOtherText, IsOverFilled, BreaksSimple, is_other, may_be_empty, is_mixed, BreaksModel, BreaksForm, BreaksContent, model_code}
use Rattle.xs_codes.specs.declared.code.Code.TheVariants.{DerivationOkRestriction5_2, DerivationOkRestriction5_3, DerivationOkRestriction5_4_1}
use Rattle.derive_faults.specs.Emptiable.{has_emptiable_model}
use Rattle.component_tables.specs.declared.content_types.ContentType.{ContentType}
use Rattle.component_tables.specs.declared.content_types.ContentType.TheVariants.{SimpleType, Empty, SimpleContent, ElementOnly, Mixed}
use Rattle.derive_faults.specs.TypeFaults.{IsFirstCode, when}
use Rattle.derive_faults.proofs.FaultLaws.{when-true, when-false, when-first}

-- the test turned around
pub turned-not : (P : Type 0) (b : Bool) → IsTrue b ↔ P → IsTrue (not b) ↔ (P → ⊥)
turned-not P true told = ((λ e. absurd (false≢true e)), (λ never. absurd (never (told.0 refl))))
turned-not P false told = ((λ e p. false≢true (told.1 p)), (λ never. refl))

pub turned-false : (b : Bool) → IsTrue (not b) ↔ (b ≡ false)
turned-false true = ((λ e. sym e), (λ e. sym e))
turned-false false = ((λ e. refl), (λ e. refl))

-- the code of a content model
pub model-first : (t : Tables) (base : TypeId) (content : ContentType) (emptiable : Bool) → emptiable ≡ has_emptiable_model t base → (effective : Option ℕ) (has mixed : Bool) → has ≡ is_some effective → (r : Option Code) → r ≡ model_code content emptiable has mixed →
    IsFirstCode (BreaksModel t base content effective mixed) r
model-first t base content emptiable e None has mixed h r is =
    subst (IsFirstCode (BreaksModel t base content None mixed)) (sym (is ∙ ap (λ b. model_code content emptiable b mixed) h))
    (when-false (may_be_empty content (has_emptiable_model t base)) (may_be_empty content emptiable) DerivationOkRestriction5_3 (ap (may_be_empty content) e))
model-first t base content emptiable e (Some particle) has mixed h r is =
    subst (IsFirstCode (BreaksModel t base content (Some particle) mixed)) (sym (is ∙ ap (λ b. model_code content emptiable b mixed) h))
    (when-true (mixed && not (is_mixed content)) (mixed && not (is_mixed content)) DerivationOkRestriction5_4_1 refl)

nothing : (P Q : Type 0) → (P → ⊥) → (Q → ⊥) → IsTrue false ↔ (P ⊎ Q)
nothing P Q not_first never = ((λ e. absurd (false≢true e)), (λ either. elim either [ inl p ↦ absurd (not_first p) | inr q ↦ absurd (never q) ]))

other-told : (t : Tables) (base : TypeId) (content : ContentType) (own : Option TypeId) (derived emptiable : Bool) → IsTrue derived ↔ IsTextDerived t own base → emptiable ≡ has_emptiable_model t base →
    IsTrue (is_other content derived emptiable) ↔ (IsOtherText t base content own ⊎ IsOverFilled t base content)
other-told t base SimpleType own derived emptiable told e = nothing _ _ (λ x. x) (λ x. x)
other-told t base Empty own derived emptiable told e = nothing _ _ (λ x. x) (λ x. x)
other-told t base ElementOnly own derived emptiable told e = nothing _ _ (λ x. x) (λ x. x)
other-told t base SimpleContent own derived emptiable told e =
    let turned = turned-not (IsTextDerived t own base) derived told in
    ((λ h. inl (turned.0 h)), (λ either. elim either [ inl x ↦ turned.1 x | inr x ↦ absurd x ]))
other-told t base Mixed own derived emptiable told e =
    let turned = turned-false emptiable in
    ((λ h. inr (sym e ∙ turned.0 h)), (λ either. elim either [ inl x ↦ absurd x | inr x ↦ turned.1 (e ∙ x) ]))

-- the code of simple content
pub simple-first : (t : Tables) (base : TypeId) (content : ContentType) (own : Option TypeId) (derived emptiable other : Bool) (r : Option Code) → IsTrue derived ↔ IsTextDerived t own base → emptiable ≡ has_emptiable_model t base → other ≡ is_other content derived emptiable →
    r ≡ when other DerivationOkRestriction5_2 → IsFirstCode (BreaksSimple t base content own) r
simple-first t base content own derived emptiable other r told e f is =
    subst (IsFirstCode (BreaksSimple t base content own)) (sym (is ∙ ap (λ b. when b DerivationOkRestriction5_2) f))
    (when-first (IsOtherText t base content own ⊎ IsOverFilled t base content) (is_other content derived emptiable) DerivationOkRestriction5_2 (other-told t base content own derived emptiable told e))

-- by the form of a type and the content of its base
module _ (t : Tables) (part : ComplexType) (content : ContentType) (of : content ≡ content_of t part.base) where
  pub simple-in : {E : Type 0} (own : Option TypeId) (step : List FacetItem) → part.content ≡ forms.Simple own step → (r : Result (Option Code) E) → IfOk r (IsFirstCode (BreaksSimple t part.base content own)) → IfOk r (IsFirstCode (BreaksContent t part))
  simple-in own step is r first =
      subst (λ form. IfOk r (IsFirstCode (BreaksForm t part.base (content_of t part.base) form))) (sym is)
      (subst (λ (c : ContentType). IfOk r (IsFirstCode (BreaksSimple t part.base c own))) of first)

  pub model-in : (effective : Option ℕ) (mixed : Bool) → part.content ≡ forms.Complex effective mixed → (emptiable has : Bool) (r : Option Code) → emptiable ≡ has_emptiable_model t part.base → has ≡ is_some effective → r ≡ model_code content emptiable has mixed → IsFirstCode (BreaksContent t part) r
  model-in effective mixed is emptiable has r e h f =
      subst (λ form. IsFirstCode (BreaksForm t part.base (content_of t part.base) form) r) (sym is)
      (subst (λ (c : ContentType). IsFirstCode (BreaksModel t part.base c effective mixed) r) of (model-first t part.base content emptiable e effective has mixed h r f))

pub own-there : (t : Tables) (form : ContentForm) → ((own : TypeId) (step : List FacetItem) → form ≡ forms.Simple (Some own) step → IsType t own) → (o : Option TypeId) (step : List FacetItem) → form ≡ forms.Simple o step → IfSome o (IsType t)
own-there t form there None step is = tt
own-there t form there (Some own) step is = there own step is
