-- The codes of value constraints, by what carries them.
use Rattle.std.proofs.Common.{◌≡◌, ◌⊎◌, inl, inr, false, Option, Some, Result, Ok, Err, slice_get, refl, sym, ◌∙◌, subst}
use Rattle.std.specs.Prelude.{IfOk}
use Rattle.std.proofs.lemmas.Option.{same_Some}
use Rattle.xs_codes.specs.declared.code.Code.{Code}
use Rattle.xs_codes.specs.declared.code.Code.TheVariants.{CosValidDefault2_1}
use Rattle.xs_components.specs.Tables.{Tables}
use Rattle.xs_components.specs.declared.attribute.AttributeDecl.{AttributeDecl}
use Rattle.xs_components.specs.declared.attribute.AttrUse.{AttrUse}
use Rattle.xs_components.specs.declared.common.TypeId.{TypeId}
use Rattle.xs_components.specs.declared.common.ValueConstraint.{ValueConstraint}
use Rattle.component_tables.specs.declared.content_types.ContentType.{ContentType}
use Rattle.component_tables.specs.declared.content_types.ContentType.TheVariants.{SimpleType, Empty, SimpleContent, ElementOnly, Mixed}
use Rattle.derive_faults.specs.TypeFaults.{IsFirstCode, stands_before}
use Rattle.derive_faults.proofs.FaultLaws.{first-same, not-itself}
use Rattle.derive_faults.specs.Attributes.{BreaksOwn, BreaksUse}
use Rattle.derive_faults.specs.Elements.{IsNotValid, IsFilled, BreaksContent}

module _ {E : Type 0} where
  -- of a constraint that is there
  pub constraint-in : (B : ValueConstraint → Code → Type 0) (value : Option ValueConstraint) (constraint : ValueConstraint) → value ≡ Some constraint → (r : Result (Option Code) E) → IfOk r (IsFirstCode (B constraint)) →
      IfOk r (IsFirstCode (λ code. (c : ValueConstraint) × (value ≡ Some c) × B c code))
  constraint-in B value constraint is (Ok code) first =
      first-same (B constraint) (λ code. (c : ValueConstraint) × (value ≡ Some c) × B c code) (λ code x. (constraint, is, x))
      (λ code x. subst (λ (c : ValueConstraint). B c code) (same_Some x.0 constraint (sym x.1 ∙ is)) x.2) code first
  constraint-in B value constraint is (Err e) first = tt

  -- of a use whose declaration is there
  pub use-in : (t : Tables) (part : AttrUse) (decl : AttributeDecl) (own : ValueConstraint) → part.value ≡ Some own → slice_get t.attributes.parts part.attribute ≡ Some decl → (r : Result (Option Code) E) → IfOk r (IsFirstCode (BreaksOwn t decl own)) →
      IfOk r (IsFirstCode (BreaksUse t part))
  use-in t part decl own is at (Ok code) first =
      first-same (BreaksOwn t decl own) (BreaksUse t part) (λ code x. (own, decl, is, at, x))
      (λ code x. subst (λ (o : ValueConstraint). BreaksOwn t decl o code) (same_Some x.0 own (sym x.2 ∙ is)) (subst (λ (d : AttributeDecl). BreaksOwn t d x.0 code) (same_Some x.1 decl (sym x.3 ∙ at)) x.4))
      code first
  use-in t part decl own is at (Err e) first = tt

  -- by the content of a type
  module _ (t : Tables) (of : TypeId) (constraint : ValueConstraint) (content : ContentType) where
    pub text-in : (content ≡ SimpleType) ⊎ (content ≡ SimpleContent) → (r : Result (Option Code) E) → IfOk r (IsFirstCode (IsNotValid t of constraint)) → IfOk r (IsFirstCode (BreaksContent t of constraint content))
    text-in either r first =
        elim either [
          | inl e ↦ subst (λ (k : ContentType). IfOk r (IsFirstCode (BreaksContent t of constraint k))) (sym e) first
          | inr e ↦ subst (λ (k : ContentType). IfOk r (IsFirstCode (BreaksContent t of constraint k))) (sym e) first
        ]

-- one code alone
alone : (code : Code) → IsFirstCode (λ c. c ≡ code) (Some code)
alone code = (refl, λ other e. subst (λ c. stands_before c code ≡ false) (sym e) (not-itself code))

module _ (t : Tables) (of : TypeId) (constraint : ValueConstraint) (content : ContentType) where
  pub no-text : (content ≡ Empty) ⊎ (content ≡ ElementOnly) → IsFirstCode (BreaksContent t of constraint content) (Some CosValidDefault2_1)
  no-text either =
      elim either [
        | inl e ↦ subst (λ (k : ContentType). IsFirstCode (BreaksContent t of constraint k) (Some CosValidDefault2_1)) (sym e) (alone CosValidDefault2_1)
        | inr e ↦ subst (λ (k : ContentType). IsFirstCode (BreaksContent t of constraint k) (Some CosValidDefault2_1)) (sym e) (alone CosValidDefault2_1)
      ]

  pub mixed-first : content ≡ Mixed → (r : Option Code) → IsFirstCode (IsFilled t of) r → IsFirstCode (BreaksContent t of constraint content) r
  mixed-first e r first = subst (λ (k : ContentType). IsFirstCode (BreaksContent t of constraint k) r) (sym e) first
