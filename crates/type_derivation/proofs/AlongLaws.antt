-- Derivation along bases alone.
use Rattle.std.proofs.Common.{◌≡◌, ℕ, ◌<◌, ◌≤◌, ◌⊎◌, inl, inr, List, [], Bool, true, false, Option, None, Some, length, slice_get, refl, sym, ap, ◌∙◌, subst, zero, suc, arith}
use Rattle.std.specs.Prelude.{Contains}
use Rattle.std.proofs.lemmas.Bool.{true≢false}
use Rattle.xs_components.specs.Tables.{Tables}
use Rattle.xs_components.specs.declared.common.Methods.{Methods}
use Rattle.xs_components.specs.declared.common.TypeId.{TypeId}
use Rattle.xs_components.specs.declared.common.TypeId.TheVariants.{AnyType, Builtin, Simple, Complex}
use Rattle.xs_components.specs.declared.simple.SimpleForm.{SimpleForm}
use Rattle.xs_components.specs.declared.simple.SimpleForm.TheVariants.{Restrict, ListOf, UnionOf}
use Rattle.xs_components.specs.declared.simple.SimpleType.{SimpleType}
use Rattle.component_references.specs.Heights.{type_height, IsLower}
use Rattle.component_references.specs.Ranked.{named_types, IsRanked}
use Rattle.component_tables.specs.Bases.{BaseTable, line_at, IsMarked, AreLinesOf}
use Rattle.type_derivation.specs.Derives.{above, members_of, form_members, members_in, simple_members}
use Rattle.type_derivation.specs.Chains.{Derives, same, by_base, by_member}
use Rattle.type_derivation.specs.inside.Along.{DerivesAlong, itself, from_base}
use Rattle.type_derivation.proofs.BaseLaws.{above-lower}
use Rattle.type_derivation.proofs.MemberLaws.{members-is, made-of, goes-lower}

no-member : (xs : List TypeId) (x : TypeId) → xs ≡ [] → Contains xs x → ⊥
no-member xs x e c = let l : c.0 < length xs = c.1 in let z : length xs ≡ 0 = ap (λ (ys : List TypeId). length ys) e in absurd (omega (arith, l, z))

module _ (t : Tables) (excluded : Methods) where
  pub along-derives : (sub base : TypeId) → DerivesAlong t excluded sub base → Derives t excluded sub base
  along-derives _ _ (itself one) = same one
  along-derives _ _ (from_base sub next base e d) = by_base sub next base e (along-derives next base d)

  pub derives-along : (sub base : TypeId) → members_of t base ≡ [] → Derives t excluded sub base → DerivesAlong t excluded sub base
  derives-along _ _ none (same one) = itself one
  derives-along _ _ none (by_base sub next base e d) = from_base sub next base e (derives-along next base none d)
  derives-along _ _ none (by_member sub member base s free c d) = absurd (no-member (members_of t base) member none c)

  pub along-trans : (a b c : TypeId) → DerivesAlong t excluded a b → DerivesAlong t excluded b c → DerivesAlong t excluded a c
  along-trans _ _ c (itself one) e = e
  along-trans _ _ c (from_base sub next base is d) e = from_base sub next c is (along-trans next base c d e)

  -- a type derives from another by its base, if it is not the other
  pub record Up (at base : TypeId) : Type 0 where
    pub next : TypeId
    pub there : above t excluded at ≡ Some next
    pub derives : DerivesAlong t excluded next base

  pub first-step : (at base : TypeId) → DerivesAlong t excluded at base → (at ≡ base) ⊎ Up at base
  first-step _ _ (itself one) = inl refl
  first-step _ _ (from_base sub next base e d) = inr (record { next = next; there = e; derives = d })

  pub along-height : IsRanked t → (a b : TypeId) → DerivesAlong t excluded a b → type_height t b ≤ type_height t a
  along-height ranked _ _ (itself one) = omega arith
  along-height ranked _ _ (from_base sub next base e d) =
      let low : IsLower t (type_height t sub) next = rw e at (above-lower t ranked excluded sub) in
      let less = low.lower in
      let rest = along-height ranked next base d in
      omega (arith, less, rest)

-- what is not marked has no members
module _ (t : Tables) (ranked : IsRanked t) (b : BaseTable) (lines : AreLinesOf t b) where
  unmarked : (id : ℕ) (part : SimpleType) (form : SimpleForm) → slice_get t.simples.parts id ≡ Some part → part.form ≡ form → IsMarked b form (line_at b (Simple id)).is_union
  unmarked id part form is e = subst (λ form. IsMarked b form (line_at b (Simple id)).is_union) e (lines.unions id part is)

  abbrev HasNone : ℕ → Type 0
  HasNone n = (x : TypeId) → type_height t x < n → (line_at b x).is_union ≡ false → members_of t x ≡ []

  none-above : (n : ℕ) → HasNone n → (id : ℕ) → type_height t (Simple id) < suc n → (line_at b (Simple id)).is_union ≡ false → (part : SimpleType) → slice_get t.simples.parts id ≡ Some part →
      (base : TypeId) (form : SimpleForm) → part.form ≡ form → form_members (simple_members t) form ≡ members_of t base → (IsLower t (type_height t (Simple id)) base) →
      ((line_at b base).is_union ≡ true → ⊥) → members_of t (Simple id) ≡ []
  none-above n before id high is part there base form e made low not =
      let less = low.lower in
      made-of t ranked (Simple id) id refl part there form e ∙ made ∙ before base (omega (arith, less, high)) (off (line_at b base).is_union not)
    where
      off : (u : Bool) → (u ≡ true → ⊥) → u ≡ false
      off true not = absurd (not refl)
      off false not = refl

  none-of : (n : ℕ) → HasNone n → (id : ℕ) → type_height t (Simple id) < suc n → (line_at b (Simple id)).is_union ≡ false → (part : SimpleType) → slice_get t.simples.parts id ≡ Some part →
      (form : SimpleForm) → part.form ≡ form → members_of t (Simple id) ≡ []
  none-of n before id high is part there (ListOf item) e = made-of t ranked (Simple id) id refl part there (ListOf item) e
  none-of n before id high is part there (UnionOf members) e = absurd (true≢false (sym (unmarked id part (UnionOf members) there e) ∙ is))
  none-of n before id high is part there (Restrict AnyType step) e = made-of t ranked (Simple id) id refl part there (Restrict AnyType step) e
  none-of n before id high is part there (Restrict (Builtin k) step) e = made-of t ranked (Simple id) id refl part there (Restrict (Builtin k) step) e
  none-of n before id high is part there (Restrict (Complex k) step) e = made-of t ranked (Simple id) id refl part there (Restrict (Complex k) step) e
  none-of n before id high is part there (Restrict (Simple k) step) e =
      none-above n before id high is part there (Simple k) (Restrict (Simple k) step) e refl
      (goes-lower t ranked (Simple id) id refl part there (Simple k) (ap named_types e))
      (λ up. true≢false (sym (unmarked id part (Restrict (Simple k) step) there e k refl up) ∙ is))

  none-at : (n : ℕ) → HasNone n
  none-at zero x h is = absurd (omega (arith, h))
  none-at (suc n) AnyType h is = refl
  none-at (suc n) (Builtin k) h is = refl
  none-at (suc n) (Complex k) h is = refl
  none-at (suc n) (Simple id) h is = of (none-at n) (slice_get t.simples.parts id) refl
    where
      of : HasNone n → (o : Option SimpleType) → slice_get t.simples.parts id ≡ o → members_of t (Simple id) ≡ []
      of before None e = members-is t ranked id ∙ ap (members_in (simple_members t)) e
      of before (Some part) e = none-of n before id h is part e part.form refl

  pub no-members : (x : TypeId) → (line_at b x).is_union ≡ false → members_of t x ≡ []
  no-members x is = none-at (suc (type_height t x)) x (omega arith) is
