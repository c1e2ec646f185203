-- Content types, and a table of those that are known.
use Rattle.std.proofs.Common.{◌≡◌, ℕ, ◌<◌, inl, inr, Bool, true, false, List, Option, None, Some, length, set, slice_get, refl, sym, ap, ◌∙◌, subst, arith}
use Rattle.std.specs.Option.{option_map}
use Rattle.std.proofs.lemmas.Bool.{cases_eq, true≢false}
use Rattle.std.proofs.lemmas.Option.{slice_get_within}
use Rattle.std.proofs.lemmas.List.{get_or-set_same, get_or-set_other}
use Rattle.std.proofs.lemmas.List.Sums.{sum_by-set}
use Rattle.xs_components.specs.Tables.{Tables}
use Rattle.xs_components.specs.declared.common.TypeId.{TypeId}
use Rattle.xs_components.specs.declared.common.TypeId.TheVariants.{AnyType, Builtin, Simple, Complex}
use Rattle.xs_components.specs.declared.complex.ComplexType.{ComplexType}
use Rattle.xs_components.specs.declared.complex.ContentForm.{ContentForm}
use Rattle.xs_components.specs.declared.complex.ContentForm.TheVariants as forms
use Rattle.component_tables.specs.ContentTypes.{form_content}
use Rattle.component_tables.specs.declared.content_types.ContentType.{ContentType}
use Rattle.component_tables.specs.declared.content_types.ContentType.TheVariants.{Empty, Mixed}
use Rattle.type_derivation.specs.Contents.{HasContent, of_any, of_built_in, of_simple, own, inherited}
use Rattle.type_derivation.specs.inside.Kinds.{entry, kind_in, goes_by_base, kind_over, next_kind, IsSound, LacksAt, one_if_none, unknown}

part-same : (a b : ComplexType) (o : Option ComplexType) → o ≡ Some a → o ≡ Some b → a ≡ b
part-same a b o e f = let g : Some a ≡ Some b = sym e ∙ f in cc

kind-same : (a b : ContentType) (o : Option ContentType) → o ≡ Some a → o ≡ Some b → a ≡ b
kind-same a b o e f = let g : Some a ≡ Some b = sym e ∙ f in cc

none-not-some : (a : ContentType) (o : Option ContentType) → o ≡ None → o ≡ Some a → ⊥
none-not-some a o e f = let g : None ≡ Some a = sym e ∙ f in cc

-- what goes not by its base is the same over each
form-free : (by_extension : Bool) (form : ContentForm) → goes_by_base by_extension form ≡ false → (x y : ContentType) → form_content by_extension form x ≡ form_content by_extension form y
form-free by_extension (forms.Simple inner step) e x y = refl
form-free by_extension (forms.Complex (Some p) mixed) e x y = refl
form-free true (forms.Complex None mixed) e x y = absurd (true≢false e)
form-free false (forms.Complex None mixed) e x y = refl

-- and what does is not
form-bound : (by_extension : Bool) (form : ContentForm) → goes_by_base by_extension form ≡ true → form_content by_extension form Empty ≡ form_content by_extension form Mixed → ⊥
form-bound by_extension (forms.Simple inner step) e f = true≢false (sym e)
form-bound by_extension (forms.Complex (Some p) mixed) e f = true≢false (sym e)
form-bound true (forms.Complex None mixed) e f = cc
form-bound false (forms.Complex None mixed) e f = true≢false (sym e)

abbrev over : ComplexType → ContentType → ContentType
over part base = form_content part.by_extension part.content base

abbrev told : ComplexType → Bool
told part = goes_by_base part.by_extension part.content

module _ (t : Tables) where
  -- a type has one content type
  pub functional : (x : TypeId) (a b : ContentType) → HasContent t x a → HasContent t x b → a ≡ b
  functional _ _ _ of_any of_any = refl
  functional _ _ _ (of_built_in k) (of_built_in _) = refl
  functional _ _ _ (of_simple id) (of_simple _) = refl
  functional _ _ _ (own id p a e f) (own _ q b g h) = sym (f Empty) ∙ (ap (λ (r : ComplexType). over r Empty) (part-same p q (slice_get t.complexes.parts id) e g) ∙ h Empty)
  functional _ _ _ (own id p a e f) (inherited _ q b g c) = sym (f b) ∙ ap (λ (r : ComplexType). over r b) (part-same p q (slice_get t.complexes.parts id) e g)
  functional _ _ _ (inherited id p a e c) (own _ q b g h) = ap (λ (r : ComplexType). over r a) (part-same p q (slice_get t.complexes.parts id) e g) ∙ h a
  functional _ _ _ (inherited id p a e c) (inherited _ q b g d) =
      ap (over p) (functional p.base a b c (subst (λ (r : ComplexType). HasContent t r.base b) (part-same q p (slice_get t.complexes.parts id) g e) d))
      ∙ ap (λ (r : ComplexType). over r b) (part-same p q (slice_get t.complexes.parts id) e g)

  pub kind-sound : (table : List (Option ContentType)) → IsSound t table → (x : TypeId) (kind : ContentType) → kind_in table x ≡ Some kind → HasContent t x kind
  kind-sound table sound AnyType kind e = subst (HasContent t AnyType) (let g = e in cc) of_any
  kind-sound table sound (Builtin b) kind e = subst (HasContent t (Builtin b)) (let g = e in cc) (of_built_in b)
  kind-sound table sound (Simple id) kind e = subst (HasContent t (Simple id)) (let g = e in cc) (of_simple id)
  kind-sound table sound (Complex id) kind e = sound id kind e

  -- what is told by form and table is so
  pub next-sound : (table : List (Option ContentType)) → IsSound t table → (n : ℕ) (part : ComplexType) (kind : ContentType) → slice_get t.complexes.parts n ≡ Some part → next_kind table part ≡ Some kind → HasContent t (Complex n) kind
  next-sound table sound n part kind is e = on (told part) refl e
    where
      base : (o : Option ContentType) → kind_in table part.base ≡ o → option_map (over part) o ≡ Some kind → HasContent t (Complex n) kind
      base None g h = absurd (none-not-some kind None refl h)
      base (Some k) g h = subst (HasContent t (Complex n)) (let i = h in cc) (inherited n part k is (kind-sound table sound part.base k g))

      on : (b : Bool) → told part ≡ b → kind_over b part (kind_in table part.base) ≡ Some kind → HasContent t (Complex n) kind
      on true f h = base (kind_in table part.base) refl h
      on false f h = own n part kind is (λ x. form-free part.by_extension part.content f x Empty ∙ kind-same (over part Empty) kind (Some (over part Empty)) refl h)

  -- where the table lacks only what it does not tell, it has all there is
  pub complete : (table : List (Option ContentType)) → IsSound t table → ((n : ℕ) → n < length t.complexes.parts → LacksAt t table n) → (x : TypeId) (kind : ContentType) → HasContent t x kind → kind_in table x ≡ Some kind
  complete table sound lacks _ _ of_any = refl
  complete table sound lacks _ _ (of_built_in k) = refl
  complete table sound lacks _ _ (of_simple id) = refl
  complete table sound lacks _ _ (own id p a e f) = on (entry table id) refl
    where
      none : (b : Bool) → told p ≡ b → kind_over b p (kind_in table p.base) ≡ None → ⊥
      none true g h = form-bound p.by_extension p.content g (f Empty ∙ sym (f Mixed))
      none false g h = none-not-some (over p Empty) (Some (over p Empty)) h refl

      on : (o : Option ContentType) → entry table id ≡ o → entry table id ≡ Some a
      on None g = absurd (none (told p) refl (lacks id (slice_get_within t.complexes.parts id p e) p e g))
      on (Some k) g = g ∙ ap Some (functional (Complex id) k a (sound id k g) (own id p a e f))
  complete table sound lacks _ _ (inherited id p a e c) = on (entry table id) refl (complete table sound lacks p.base a c)
    where
      none : kind_in table p.base ≡ Some a → (b : Bool) → kind_over b p (kind_in table p.base) ≡ None → ⊥
      none base true h = none-not-some (over p a) (kind_over true p (kind_in table p.base)) h (ap (option_map (over p)) base)
      none base false h = none-not-some (over p Empty) (Some (over p Empty)) h refl

      on : (o : Option ContentType) → entry table id ≡ o → kind_in table p.base ≡ Some a → entry table id ≡ Some (over p a)
      on None g base = absurd (none base (told p) (lacks id (slice_get_within t.complexes.parts id p e) p e g))
      on (Some k) g base = g ∙ ap Some (functional (Complex id) k (over p a) (sound id k g) (inherited id p a e c))

  module _ (table : List (Option ContentType)) (n : ℕ) (kind : ContentType) (there : n < length table) where
    -- a kind more
    pub sound-more : IsSound t table → HasContent t (Complex n) kind → IsSound t (set table n (Some kind))
    sound-more sound here m k e = elim (cases_eq m n) [
      | inl same ↦ (let at : entry (set table n (Some kind)) m ≡ Some kind = ap (entry (set table n (Some kind))) same ∙ get_or-set_same table n (Some kind) None there in
          let is : kind ≡ k = kind-same kind k (entry (set table n (Some kind)) m) at e in
          subst (λ i. HasContent t (Complex i) k) (sym same) (subst (HasContent t (Complex n)) is here))
      | inr other ↦ sound m k (sym (get_or-set_other table n m (Some kind) None other) ∙ e)
    ]

    pub fewer : entry table n ≡ None → unknown (set table n (Some kind)) < unknown table
    fewer e = let law = sum_by-set one_if_none table n (Some kind) None there in let one : one_if_none (entry table n) ≡ 1 = ap one_if_none e in omega (arith, law, one)

  -- what the table has it does not lack
  pub has-at : (table : List (Option ContentType)) (n : ℕ) (kind : ContentType) → entry table n ≡ Some kind → LacksAt t table n
  has-at table n kind e part is none = absurd (none-not-some kind (entry table n) none e)

  pub lacks-at : (table : List (Option ContentType)) (n : ℕ) (part : ComplexType) → slice_get t.complexes.parts n ≡ Some part → next_kind table part ≡ None → LacksAt t table n
  lacks-at table n part is e other also none = ap (next_kind table) (part-same other part (slice_get t.complexes.parts n) also is) ∙ e
