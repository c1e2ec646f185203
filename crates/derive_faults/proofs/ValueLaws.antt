-- Values of constraints are determined, so what is found of two is what there is to find.
use Rattle.std.proofs.Common.{◌≡◌, ◌↔◌, inl, inr, Bool, true, false, Option, None, Some, Result, Ok, Err, refl, sym, ap, ◌∙◌, subst}
use Rattle.std.specs.Prelude.{IsTrue, IfOk, not}
use Rattle.std.proofs.lemmas.Bool.{false≢true}
use Rattle.xs_codes.specs.declared.code.Code.{Code}
use Rattle.xs_components.specs.Tables.{Tables}
use Rattle.xs_components.specs.declared.common.TypeId.{TypeId}
use Rattle.xs_components.specs.declared.common.ValueConstraint.{ValueConstraint}
use Rattle.simple_values.specs.declared.value.Value.{Value}
use Rattle.simple_values.proofs.Keys.{key_back}
use Rattle.simple_types.specs.Trees.{type_tree}
use Rattle.simple_types.specs.SimpleTypes.{IsValueOf}
use Rattle.simple_types.proofs.Valid.{one-outcome}
use Rattle.derive_faults.specs.Values.{other_values, HasOtherValue, IsLost, LosesFixed}

module _ (t : Tables) (of base_of : TypeId) (own base : ValueConstraint) where
  -- of two outcomes that are found
  pub other-value : (a b : Result Value Code) → IsValueOf (type_tree t of) own.scope own.text a → IsValueOf (type_tree t base_of) base.scope base.text b → (answer : Bool) → answer ≡ other_values a b → IsTrue answer ↔ HasOtherValue t of base_of own base
  other-value a b is at answer e = (
    λ h. (a, b, is, at, sym e ∙ h),
    λ x.
        let first : a ≡ x.0 = one-outcome t of own.scope own.text a x.0 is x.2 in
        let second : b ≡ x.1 = one-outcome t base_of base.scope base.text b x.1 at x.3 in
        e ∙ (ap (λ (r : Result Value Code). other_values r b) first ∙ (ap (λ (r : Result Value Code). other_values x.0 r) second ∙ x.4)),
  )

not-other : (a : Result Value Code) → other_values a a ≡ true → ⊥
not-other (Ok a) e = false≢true (sym (ap not (key_back a a refl)) ∙ e)
not-other (Err code) e = false≢true e

-- a constraint keeps its own value
pub not-lost : (t : Tables) (of : TypeId) (own : Option ValueConstraint) → LosesFixed t of of own own → ⊥
not-lost t of None x = x
not-lost t of (Some own) (fixed, inl loose) = false≢true (sym loose ∙ fixed)
not-lost t of (Some own) (fixed, inr (a, b, is, at, other)) =
    not-other b (subst (λ (r : Result Value Code). other_values r b ≡ true) (one-outcome t of own.scope own.text a b is at) other)

module _ (t : Tables) (of base_of : TypeId) where
  -- a constraint that is not fixed
  pub loose : (own base : ValueConstraint) → own.fixed ≡ false → IsTrue true ↔ IsLost t of base_of (Some own) base
  loose own base free = ((λ h. inl free), (λ x. refl))

  pub lost-in : {E : Type 0} (own base : ValueConstraint) → own.fixed ≡ true → (r : Result Bool E) → IfOk r (λ answer. IsTrue answer ↔ HasOtherValue t of base_of own base) → IfOk r (λ answer. IsTrue answer ↔ IsLost t of base_of (Some own) base)
  lost-in own base fixed (Ok answer) told = ((λ h. inr (told.0 h)), (λ either. elim either [ inl free ↦ absurd (false≢true (sym free ∙ fixed)) | inr x ↦ told.1 x ]))
  lost-in own base fixed (Err e) told = tt

  -- a base that fixes no value
  pub keeps : (own : Option ValueConstraint) (base : ValueConstraint) → base.fixed ≡ false → IsTrue false ↔ LosesFixed t of base_of own (Some base)
  keeps own base free = ((λ h. absurd (false≢true h)), (λ x. absurd (false≢true (sym free ∙ x.0))))

  pub loses-in : {E : Type 0} (own : Option ValueConstraint) (base : ValueConstraint) → base.fixed ≡ true → (r : Result Bool E) → IfOk r (λ answer. IsTrue answer ↔ IsLost t of base_of own base) → IfOk r (λ answer. IsTrue answer ↔ LosesFixed t of base_of own (Some base))
  loses-in own base fixed (Ok answer) told = ((λ h. (fixed, told.0 h)), (λ x. told.1 x.1))
  loses-in own base fixed (Err e) told = tt
