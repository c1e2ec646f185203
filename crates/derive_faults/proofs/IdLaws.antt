-- Types of IDs, along what their contents are made of.
use Rattle.std.proofs.Common.{◌≡◌, ◌↔◌, ◌⊎◌, inl, inr, ℕ, ◌+◌, ◌<◌, ◌≤◌, Bool, true, false, List, Option, None, Some, slice_get, refl, sym, ap, ◌∙◌, subst, arith}
use Rattle.std.specs.Prelude.{slice_index}
use Rattle.std.specs.Option.{option_and_then}
use Rattle.std.proofs.lemmas.Bool.{false≢true}
use Rattle.std.proofs.lemmas.Option.{same_Some, none-some}
use Rattle.xs_components.specs.Tables.{Tables}
use Rattle.xs_components.specs.declared.common.TypeId.{TypeId}
use Rattle.xs_components.specs.declared.common.TypeId.TheVariants.{AnyType, Builtin, Simple, Complex}
use Rattle.xs_components.specs.declared.complex.ComplexType.{ComplexType}
use Rattle.xs_components.specs.declared.complex.ContentForm.{ContentForm}
use Rattle.xs_components.specs.declared.complex.ContentForm.TheVariants as forms
use Rattle.xs_components.specs.declared.simple.FacetItem.{FacetItem}
use Rattle.component_references.specs.Heights.{IsType, IsLower, type_height, first_height}
use Rattle.type_derivation.specs.Derives.{is_simple}
use Rattle.derive_faults.specs.Given.{AreGiven}
use Rattle.derive_faults.specs.Ids.{IsSimpleId, HasIdContent, of_simple, of_source, restricted, form_source, content_source, source_of, content_height}

module _ (t : Tables) where
  -- a complex type that has a source
  abbrev IsSource : TypeId → TypeId → Type 0
  IsSource at source = (id : ℕ) × (part : ComplexType) × (at ≡ Complex id) × (slice_get t.complexes.parts id ≡ Some part) × (content_source part ≡ Some source)

  of-part : (id : ℕ) (source : TypeId) (o : Option ComplexType) → slice_get t.complexes.parts id ≡ o → option_and_then content_source o ≡ Some source → IsSource (Complex id) source
  of-part id source None is e = absurd (none-some source e)
  of-part id source (Some part) is e = (id, part, refl, is, e)

  source-is : (at source : TypeId) → source_of t at ≡ Some source → IsSource at source
  source-is AnyType source e = absurd (none-some source e)
  source-is (Builtin kind) source e = absurd (none-some source e)
  source-is (Simple id) source e = absurd (none-some source e)
  source-is (Complex id) source e = of-part id source (slice_get t.complexes.parts id) refl e

  source-by : (id : ℕ) (part : ComplexType) (source : TypeId) → slice_get t.complexes.parts id ≡ Some part → content_source part ≡ Some source → source_of t (Complex id) ≡ Some source
  source-by id part source is e = ap (option_and_then content_source) is ∙ e

  no-source : (of : TypeId) → is_simple of ≡ true → (source : TypeId) → source_of t of ≡ Some source → ⊥
  no-source AnyType simple source e = none-some source e
  no-source (Builtin kind) simple source e = none-some source e
  no-source (Simple id) simple source e = none-some source e
  no-source (Complex id) simple source e = false≢true simple

  -- what such a type is
  parted : (a : TypeId) → HasIdContent t a → IsSimpleId t a ⊎ ((source : TypeId) × (source_of t a ≡ Some source) × HasIdContent t source)
  parted _ (of_simple of h) = inl h
  parted _ (of_source id part source is e h) = inr (source, source-by id part source is e, h)

  -- a type that has no source
  pub id-ends : (at : TypeId) → source_of t at ≡ None → IsSimpleId t at ↔ HasIdContent t at
  id-ends at e = ((λ h. of_simple at h), (λ h. elim (parted at h) [ inl x ↦ x | inr x ↦ absurd (none-some x.0 (sym e ∙ x.1)) ]))

  -- and one that has
  pub id-goes : (at source : TypeId) → source_of t at ≡ Some source → HasIdContent t source ↔ HasIdContent t at
  id-goes at source e = (
    (λ h. let w = source-is at source e in subst (HasIdContent t) (sym w.2) (of_source w.0 w.1 source w.3 w.4 h)),
    (λ h. elim (parted at h) [ inl x ↦ absurd (no-source at x.0 source e) | inr x ↦ subst (HasIdContent t) (same_Some x.0 source (sym x.1 ∙ e)) x.2 ]),
  )

  -- the source of a content is its base, or the simple type that stands in it
  of-own : (base : TypeId) (own : Option TypeId) (step : List FacetItem) (source : TypeId) → restricted own base ≡ Some source → (source ≡ base) ⊎ ((x : TypeId) × (forms.Simple own step ≡ forms.Simple (Some x) step) × (source ≡ x))
  of-own base None step source e = inl (sym (same_Some base source e))
  of-own base (Some own) step source e = inr (own, refl, sym (same_Some own source e))

  abbrev IsBaseOrOwn : TypeId → ContentForm → TypeId → Type 0
  IsBaseOrOwn base form source = (source ≡ base) ⊎ ((own : TypeId) × (step : List FacetItem) × (form ≡ forms.Simple (Some own) step) × (source ≡ own))

  of-form : (base source : TypeId) (by_extension : Bool) (form : ContentForm) → form_source base by_extension form ≡ Some source → IsBaseOrOwn base form source
  of-form base source true (forms.Simple own step) e = inl (sym (same_Some base source e))
  of-form base source true (forms.Complex None mixed) e = inl (sym (same_Some base source e))
  of-form base source true (forms.Complex (Some particle) mixed) e = absurd (none-some source e)
  of-form base source false (forms.Simple own step) e = elim (of-own base own step source e) [ inl x ↦ inl x | inr x ↦ inr (x.0, step, x.1, x.2) ]
  of-form base source false (forms.Complex effective mixed) e = absurd (none-some source e)

  below : (of : TypeId) → content_height t of ≤ type_height t of
  below AnyType = omega arith
  below (Builtin kind) = omega arith
  below (Simple id) = omega arith
  below (Complex id) = omega arith

  simple-low : (of : TypeId) → is_simple of ≡ true → content_height t of ≡ 0
  simple-low AnyType e = absurd (false≢true e)
  simple-low (Builtin kind) e = refl
  simple-low (Simple id) e = refl
  simple-low (Complex id) e = absurd (false≢true e)

  -- a source is there, and lower
  abbrev IsUnder : TypeId → TypeId → Type 0
  IsUnder at source = IsType t source × (content_height t source < content_height t at)

  base-under : (id : ℕ) (base : TypeId) → IsLower t (first_height + slice_index t.complexes.ranks id) base → IsUnder (Complex id) base
  base-under id base lower =
      let low = lower.lower in
      let low_content = below base in
      (lower.there, omega (arith, low, low_content))

  own-under : (id : ℕ) (own : TypeId) → IsType t own → is_simple own ≡ true → IsUnder (Complex id) own
  own-under id own there simple =
      let low = simple-low own simple in
      (there, omega (arith, low))

  pub source-under : AreGiven t → (at source : TypeId) → source_of t at ≡ Some source → IsUnder at source
  source-under given at source e =
      let w = source-is at source e in
      let id = w.0 in
      let part = w.1 in
      subst (λ a. IsUnder a source) (sym w.2)
      (elim (of-form part.base source part.by_extension part.content w.4) [
        | inl x ↦ subst (IsUnder (Complex id)) (sym x) (base-under id part.base (given.ranked.complexes id part w.3))
        | inr x ↦ (let own = given.own id part x.0 x.1 w.3 x.2 in subst (IsUnder (Complex id)) (sym x.3) (own-under id x.0 own.0 own.1))
      ])
