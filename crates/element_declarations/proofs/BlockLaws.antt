-- The methods that types between two prohibit, one type after another.
use Rattle.std.proofs.Common.{◌≡◌, ◌≢◌, ◌↔◌, ◌⊎◌, inl, inr, Bool, true, false, Some, refl, sym, ◌∙◌, subst, ap, slice_get}
use Rattle.std.specs.Prelude.{◌||◌, ℕ}
use Rattle.std.proofs.lemmas.Bool.{true≢false}
use Rattle.xs_components.specs.Tables.{Tables}
use Rattle.xs_components.specs.declared.common.Methods.{Methods}
use Rattle.xs_components.specs.declared.common.TypeId.{TypeId}
use Rattle.xs_components.specs.declared.common.TypeId.TheVariants.{Complex}
use Rattle.xs_components.specs.declared.complex.ComplexType.{ComplexType}
use Rattle.component_references.specs.Heights.{IsType}
use Rattle.component_references.specs.Ranked.{IsRanked}
use Rattle.component_references.proofs.RankedLaws.{base-lower}
use Rattle.element_declarations.specs.Groups.{IsBetween, right_above, further_above, IsProhibitedBetween, prohibited, complex_base, part_base, disallowed, IsBlocked, AreBlocked, no_methods}
use Rattle.element_declarations.specs.inside.Steps.{AreProhibited, IsNext}
use Rattle.component_tables.specs.Types.{type_of}

some-same : {X : Type 0} (a b : X) → Some a ≡ Some b → a ≡ b
some-same a b e = cc

pub or-left : (f p : Bool) → f ≡ true → (f || p) ≡ true
or-left true p e = refl
or-left false p e = absurd (true≢false (sym e))

pub or-right : (f p : Bool) → p ≡ true → (f || p) ≡ true
or-right true p e = refl
or-right false p e = e

pub or-cases : (f p : Bool) → (f || p) ≡ true → (f ≡ true) ⊎ (p ≡ true)
or-cases true p e = inl refl
or-cases false p e = inr e

module _ (f p g : Bool) (P Q R : Type 0) (is : g ≡ (f || p)) (before : P ↔ ((f ≡ true) ⊎ Q)) (step : Q ↔ ((p ≡ true) ⊎ R)) where
  there : (f ≡ true) ⊎ Q → (g ≡ true) ⊎ R
  there (inl e) = inl (is ∙ or-left f p e)
  there (inr q) = elim (step.0 q) [ inl e ↦ inl (is ∙ or-right f p e) | inr r ↦ inr r ]

  back : (g ≡ true) ⊎ R → P
  back (inl e) = elim (or-cases f p (sym is ∙ e)) [ inl a ↦ before.1 (inl a) | inr b ↦ before.1 (inr (step.1 (inl b))) ]
  back (inr r) = before.1 (inr (step.1 (inr r)))

  -- one more type
  pub or-step : P ↔ ((g ≡ true) ⊎ R)
  or-step = ((λ x. there (before.0 x)), back)

module _ (t : Tables) (base : TypeId) where
  -- so far the types below this one are done
  pub record IsDone (sub at : TypeId) (found : Methods) : Type 0 where
    pub is_there : IsType t at
    pub extension : IsProhibitedBetween t base sub (λ m. m.extension) ↔ ((found.extension ≡ true) ⊎ IsProhibitedBetween t base at (λ m. m.extension))
    pub restriction : IsProhibitedBetween t base sub (λ m. m.restriction) ↔ ((found.restriction ≡ true) ⊎ IsProhibitedBetween t base at (λ m. m.restriction))

  none-yet : (P : Type 0) → P ↔ ((false ≡ true) ⊎ P)
  none-yet P = ((λ x. inr x), (λ s. elim s [ inl e ↦ absurd (true≢false (sym e)) | inr x ↦ x ]))

  pub begins : (sub : TypeId) → IsType t sub → IsDone sub sub no_methods
  begins sub is = record { is_there = is; extension = none-yet _; restriction = none-yet _ }

  module _ (at up : TypeId) (is : IsNext t base at up) (has : Methods → Bool) where
    split : (from mid : TypeId) → from ≡ at → IsBetween t base from mid → has (prohibited t mid) ≡ true → (has (prohibited t up) ≡ true) ⊎ IsProhibitedBetween t base up has
    split _ _ same (right_above from mid other e out) h =
        inl (subst (λ x. has (prohibited t x) ≡ true) (some-same mid up (sym e ∙ (ap (complex_base t) same ∙ is.leads))) h)
    split _ _ same (further_above from higher mid other e b) h =
        inr (mid, subst (λ x. IsBetween t base x mid) (some-same higher up (sym e ∙ (ap (complex_base t) same ∙ is.leads))) b, h)

    join : (has (prohibited t up) ≡ true) ⊎ IsProhibitedBetween t base up has → IsProhibitedBetween t base at has
    join (inl h) = (up, right_above at up is.below is.leads is.other, h)
    join (inr p) = (p.0, further_above at up p.0 is.below is.leads p.1, p.2)

    pub prohibited-step : IsProhibitedBetween t base at has ↔ ((has (prohibited t up) ≡ true) ⊎ IsProhibitedBetween t base up has)
    prohibited-step = ((λ p. split at p.0 refl p.1 p.2), join)

  pub goes-on : (sub at up : TypeId) (found own new : Methods) → IsNext t base at up → own ≡ prohibited t up → new.extension ≡ (found.extension || own.extension) → new.restriction ≡ (found.restriction || own.restriction) → IsDone sub at found → IsDone sub up new
  goes-on sub at up found own new is same e r done = record {
    is_there = is.lower.there;
    extension = or-step found.extension (prohibited t up).extension new.extension _ _ _ (e ∙ ap (λ m. found.extension || m.extension) same) done.extension (prohibited-step at up is (λ m. m.extension));
    restriction = or-step found.restriction (prohibited t up).restriction new.restriction _ _ _ (r ∙ ap (λ m. found.restriction || m.restriction) same) done.restriction (prohibited-step at up is (λ m. m.restriction));
  }

  last : (f : Bool) (P Q : Type 0) → (Q → ⊥) → P ↔ ((f ≡ true) ⊎ Q) → (f ≡ true) ↔ P
  last f P Q never both = ((λ e. both.1 (inl e)), (λ x. elim (both.0 x) [ inl e ↦ e | inr q ↦ absurd (never q) ]))

  pub ends : (sub at : TypeId) (found : Methods) → ((mid : TypeId) → IsBetween t base at mid → ⊥) → IsDone sub at found → AreProhibited t base sub found
  ends sub at found none done = record {
    extension = last found.extension _ _ (λ p. none p.0 p.1) done.extension;
    restriction = last found.restriction _ _ (λ p. none p.0 p.1) done.restriction;
  }

-- the base of a complex type
pub leads-up : (t : Tables) (sub : TypeId) (id : ℕ) (part : ComplexType) → sub ≡ Complex id → slice_get t.complexes.parts id ≡ Some part → complex_base t sub ≡ Some part.base
leads-up t sub id part same e = ap (complex_base t) same ∙ ap part_base e

pub next-is : (t : Tables) (ranked : IsRanked t) (base sub : TypeId) (id : ℕ) (part : ComplexType) → sub ≡ Complex id → slice_get t.complexes.parts id ≡ Some part → sub ≢ base → part.base ≢ base → IsNext t base sub part.base
next-is t ranked base sub id part same e below other = record {
  below = below;
  leads = leads-up t sub id part same e;
  other = other;
  lower = base-lower t ranked sub id part same e;
}

-- The methods that are blocked.
module _ (t : Tables) (has : Methods → Bool) where
  abbrev Blocked : Methods → TypeId → TypeId → Type 0
  Blocked own base sub = (has own ≡ true) ⊎ ((has (prohibited t base) ≡ true) ⊎ IsProhibitedBetween t base sub has)

  blocked-iff : (own : Methods) (base sub : TypeId) (a b c : Bool) → a ≡ (b || c) → b ≡ (has own || has (prohibited t base)) → (c ≡ true) ↔ IsProhibitedBetween t base sub has → (a ≡ true) ↔ Blocked own base sub
  blocked-iff own base sub a b c ab bs cs = (
    (λ e. elim (or-cases b c (sym ab ∙ e)) [
      | inl y ↦ elim (or-cases (has own) (has (prohibited t base)) (sym bs ∙ y)) [ inl o ↦ inl o | inr p ↦ inr (inl p) ]
      | inr z ↦ inr (inr (cs.0 z))
    ]),
    (λ x. elim x [
      | inl o ↦ ab ∙ or-left b c (bs ∙ or-left (has own) (has (prohibited t base)) o)
      | inr y ↦ elim y [
        | inl p ↦ ab ∙ or-left b c (bs ∙ or-right (has own) (has (prohibited t base)) p)
        | inr q ↦ ab ∙ or-right b c (cs.1 q)
      ]
    ]),
  )

  blocked-of : (head element : ℕ) (own : Methods) (base sub : TypeId) (a : Bool) → disallowed t head ≡ own → type_of t head ≡ base → type_of t element ≡ sub → (a ≡ true) ↔ Blocked own base sub → (a ≡ true) ↔ IsBlocked t head element has
  blocked-of head element own base sub a eo eb es iff =
      subst (λ s. (a ≡ true) ↔ Blocked (disallowed t head) (type_of t head) s) (sym es)
      (subst (λ x. (a ≡ true) ↔ Blocked (disallowed t head) x sub) (sym eb)
      (subst (λ o. (a ≡ true) ↔ Blocked o base sub) (sym eo) iff))

pub are-blocked : (t : Tables) (own first types all : Methods) (base sub : TypeId) (prohibits : Methods) → prohibits ≡ prohibited t base →
    first.extension ≡ (own.extension || prohibits.extension) → first.restriction ≡ (own.restriction || prohibits.restriction) → AreProhibited t base sub types →
    all.extension ≡ (first.extension || types.extension) → all.restriction ≡ (first.restriction || types.restriction) →
    (head element : ℕ) → disallowed t head ≡ own → type_of t head ≡ base → type_of t element ≡ sub → AreBlocked t head element all
are-blocked t own first types all base sub prohibits same fe fr are ae ar head element eo eb es = record {
  extension = blocked-of t (λ m. m.extension) head element own base sub all.extension eo eb es
      (blocked-iff t (λ m. m.extension) own base sub all.extension first.extension types.extension ae (fe ∙ ap (λ m. own.extension || m.extension) same) are.extension);
  restriction = blocked-of t (λ m. m.restriction) head element own base sub all.restriction eo eb es
      (blocked-iff t (λ m. m.restriction) own base sub all.restriction first.restriction types.restriction ar (fr ∙ ap (λ m. own.restriction || m.restriction) same) are.restriction);
}
