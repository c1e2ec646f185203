-- Circles, and the first of them part by part.
use Rattle.std.proofs.Common.{◌≡◌, ℕ, ◌+◌, ◌-◌, ◌<◌, ◌≤◌, ◌⊎◌, inl, inr, true, false, List, [], ◌∷◌, ◌++◌, Option, None, Some, length, map, get_or, slice_get, refl, sym, ap, ◌∙◌, subst, arith}
use Rattle.std.specs.Option.{option_map}
use Rattle.std.proofs.lemmas.Bool.{cases_eq, cases_lt}
use Rattle.std.proofs.lemmas.Option.{slice_get-get_or, slice_get-map, slice_get_read, slice_get_within, get_or_from_slice_get}
use Rattle.std.proofs.lemmas.List.{length-map}
use Rattle.component_references.specs.NumberedCircles.{Leads, HasCircle}
use Rattle.component_references.proofs.FirstLaws.{leads-there}
use Rattle.xs_codes.specs.declared.code.Code.{Code}
use Rattle.xs_codes.specs.declared.fault.Fault.{Fault}
use Rattle.xs_components.specs.declared.common.Place.{Place}
use Rattle.xs_codes.specs.Least.{IsLeast, comes_first}
use Rattle.xs_codes.proofs.LeastLaws.{least-same, least-first, least-behind}
use Rattle.component_references.specs.Circles.{circle_fault, ComesBack}

module _ (places : List Place) (refs : List (List ℕ)) (first : ℕ) (code : Code) where
  -- one of the first parts comes back
  abbrev pub BackBelow : ℕ → Fault → Type 0
  BackBelow i fault = (n : ℕ) × (n < i) × (at : Place) × (slice_get places n ≡ Some at) × Leads refs (first + n) (first + n) × (fault ≡ circle_fault at code)

  pub none-below : IsLeast (BackBelow 0) None
  none-below = λ f c. absurd (omega (arith, c.1))

  module _ (i : ℕ) (at : Place) (is : slice_get places i ≡ Some at) where
    more : (f : Fault) → BackBelow i f → BackBelow (i + 1) f
    more f c = (c.0, omega (arith, c.1), c.2, c.3, c.4, c.5)

    some-same : (a b : Place) → Some a ≡ Some b → a ≡ b
    some-same a b e = cc

    only : (f : Fault) → BackBelow (i + 1) f → BackBelow i f ⊎ (f ≡ circle_fault at code)
    only f c = elim (cases_eq c.0 i) [
      | inl same ↦ (let e : c.2 ≡ at = some-same c.2 at (sym c.3 ∙ ap (slice_get places) same ∙ is) in inr (c.5 ∙ ap (λ p. circle_fault p code) e))
      | inr other ↦ inl (c.0, omega (arith, c.1), c.2, c.3, c.4, c.5)
    ]

    -- a part that does not come back adds nothing
    pub step-straight : (best : Option Fault) → (Leads refs (first + i) (first + i) → ⊥) → IsLeast (BackBelow i) best → IsLeast (BackBelow (i + 1)) best
    step-straight best straight is_best = least-same (BackBelow i) (BackBelow (i + 1)) more back best is_best
      where
        back : (f : Fault) → BackBelow (i + 1) f → BackBelow i f
        back f c = elim (cases_eq c.0 i) [
          | inl same ↦ absurd (straight (subst (λ n. Leads refs (first + n) (first + n)) same c.4))
          | inr other ↦ (c.0, omega (arith, c.1), c.2, c.3, c.4, c.5)
        ]

    pub step-back : (best : Option Fault) → Leads refs (first + i) (first + i) → comes_first (circle_fault at code) best ≡ true → IsLeast (BackBelow i) best → IsLeast (BackBelow (i + 1)) (Some (circle_fault at code))
    step-back best circle e is_best = least-first (BackBelow i) (BackBelow (i + 1)) (circle_fault at code) more only best is_best (i, omega arith, at, is, circle, refl) e

    pub step-behind : (best : Option Fault) → comes_first (circle_fault at code) best ≡ false → IsLeast (BackBelow i) best → IsLeast (BackBelow (i + 1)) best
    step-behind best e is_best = least-behind (BackBelow i) (BackBelow (i + 1)) (circle_fault at code) more only best is_best e

  -- the same of a fault that is that of the part
  module _ (i : ℕ) (at : Place) (fault : Fault) (is : slice_get places i ≡ Some at) (same : fault ≡ circle_fault at code) where
    pub fault-behind : (best : Option Fault) → comes_first fault best ≡ false → IsLeast (BackBelow i) best → IsLeast (BackBelow (i + 1)) best
    fault-behind best e least = step-behind i at is best (subst (λ f. comes_first f best ≡ false) same e) least

    pub fault-first : (best : Option Fault) → Leads refs (first + i) (first + i) → comes_first fault best ≡ true → IsLeast (BackBelow i) best → IsLeast (BackBelow (i + 1)) (Some fault)
    fault-first best circle e least = subst (λ f. IsLeast (BackBelow (i + 1)) (Some f)) (sym same) (step-back i at is best circle (subst (λ f. comes_first f best ≡ true) same e) least)

  -- all parts
  pub all-back : (n : ℕ) → n ≡ length places → (best : Option Fault) → IsLeast (BackBelow n) best → IsLeast (ComesBack places refs first code) best
  all-back n e best is = least-same (BackBelow n) (ComesBack places refs first code) (λ f c. (c.0, c.2, c.3, c.4, c.5)) (λ f c. (c.0, omega (arith, e, slice_get_within places c.0 c.1 c.2), c.1, c.2, c.3, c.4)) best is

  -- where no part comes back there is nothing
  pub none-back : ((x : ℕ) → Leads refs x x → ⊥) → (f : Fault) → ComesBack places refs first code f → ⊥
  none-back straight f c = straight (first + c.0) c.3

-- where a part stands that was read
pub place-read : {X : Type 0} (at : X → Place) (xs : List X) (i : ℕ) (x : X) (place : Place) → i < length xs → x ≡ get_or xs i x → place ≡ at x → slice_get (map at xs) i ≡ Some place
place-read at xs i x place within is e = slice_get-map at xs i ∙ ap (option_map at) (slice_get_read xs (length xs) i x refl within is) ∙ ap Some (sym e)

-- a part that comes back stands somewhere
pub circle-at : {X : Type 0} (at : X → Place) (xs : List X) (refs : List (List ℕ)) (first : ℕ) (code : Code) (n : ℕ) → n < length xs → Leads refs (first + n) (first + n)
    → (f : Fault) × ComesBack (map at xs) refs first code f
circle-at at [] refs first code n h l = absurd (omega arith)
circle-at at (x ∷ xs) refs first code n h l =
    let place = get_or (map at (x ∷ xs)) n (at x) in
    let short : n < length (map at (x ∷ xs)) = simp length-map h in
    (circle_fault place code, (n, place, slice_get-get_or (map at (x ∷ xs)) n (at x) short, l, refl))

-- a number behind none
pub from-zero : (refs : List (List ℕ)) (n : ℕ) → Leads refs n n → Leads refs (0 + n) (0 + n)
from-zero refs n l = let e : n ≡ 0 + n = omega arith in subst (λ m. Leads refs m m) e l

-- where a part comes back, parts of one kind or of two do
pub some-alone : {X : Type 0} (at : X → Place) (xs : List X) (refs : List (List ℕ)) (code : Code) → length refs ≡ length xs → HasCircle refs → IsLeast (ComesBack (map at xs) refs 0 code) None → ⊥
some-alone at xs refs code len c none =
    let found = circle-at at xs refs 0 code c.0 (omega (arith, leads-there refs c.0 c.0 c.1)) (from-zero refs c.0 c.1) in
    none found.0 found.1

pub some-both : {X Y : Type 0} (at : X → Place) (xs : List X) (other : Y → Place) (ys : List Y) (refs : List (List ℕ)) (code second : Code) → length refs ≡ length xs + length ys → HasCircle refs
    → IsLeast (λ f. ComesBack (map at xs) refs 0 code f ⊎ ComesBack (map other ys) refs (length xs) second f) None → ⊥
some-both at xs other ys refs code second len c none = elim (cases_lt c.0 (length xs)) [
  | inl low ↦ (let found = circle-at at xs refs 0 code c.0 low (from-zero refs c.0 c.1) in none found.0 (inl found.1))
  | inr high ↦ (let n = c.0 - length xs in
      let e : length xs + n ≡ c.0 = omega arith in
      let there = leads-there refs c.0 c.0 c.1 in
      let found = circle-at other ys refs (length xs) second n (omega (arith, there)) (subst (λ m. Leads refs m m) (sym e) c.1) in
      none found.0 (inr found.1))
]
