-- The first place of a name.
use Rattle.std.proofs.Common.{◌≡◌, ℕ, zero, suc, ◌+◌, ◌≤◌, ◌==◌, Bool, true, false, List, [], ◌∷◌, Option, None, Some, map, slice_get, slice_index_or, if◌then◌else◌, refl, sym, ap, ◌∙◌, eqb-true, eq-eqb, arith}
use Rattle.std.specs.Option.{option_or}
use Rattle.std.proofs.lemmas.Option.{none-some, same_Some}
use Rattle.component_tables.specs.Symbols.{first_from}

-- the first of two that is there, where the first of them is there by a test
abbrev or-rest : Bool → ℕ → Option ℕ → Option ℕ
or-rest here place rest = option_or (if here then Some place else None) rest

-- the place that is found has the name
pub first-has : (names : List (Option ℕ)) (i name p : ℕ) → first_from names i name ≡ Some p → (k : ℕ) × (p ≡ i + k) × (slice_index_or names k None ≡ Some name)
first-has [] i name p is = absurd (none-some p is)
first-has (None ∷ names) i name p is =
    let rest = first-has names (suc i) name p is in
    (suc rest.0, omega (arith, rest.1), rest.2)
first-has (Some own ∷ names) i name p is = by (own == name) refl (first-has names (suc i) name p)
  where
    by : (here : Bool) → (own == name) ≡ here → (first_from names (suc i) name ≡ Some p → (k : ℕ) × (p ≡ suc i + k) × (slice_index_or names k None ≡ Some name))
        → (k : ℕ) × (p ≡ i + k) × (slice_index_or (Some own ∷ names) k None ≡ Some name)
    by true same later =
        let found : Some i ≡ Some p = sym (ap (λ (here : Bool). or-rest here i (first_from names (suc i) name)) same) ∙ is in
        (zero, omega (arith, same_Some i p found), ap (λ (n : ℕ). Some n) (eqb-true own name same))
    by false other later =
        let rest = later (sym (ap (λ (here : Bool). or-rest here i (first_from names (suc i) name)) other) ∙ is) in
        (suc rest.0, omega (arith, rest.1), rest.2)

-- a name that stands at a place is found there or before
pub first-found : (names : List (Option ℕ)) (i name k : ℕ) → slice_index_or names k None ≡ Some name → (p : ℕ) × (first_from names i name ≡ Some p) × (p ≤ i + k)
first-found [] i name k is = absurd (none-some name is)
first-found (None ∷ names) i name zero is = absurd (none-some name is)
first-found (None ∷ names) i name (suc k) is =
    let rest = first-found names (suc i) name k is in
    (rest.0, rest.1, omega (arith, rest.2))
first-found (Some own ∷ names) i name zero is =
    let same : (own == name) ≡ true = eq-eqb own name (same_Some own name is) in
    (i, ap (λ (here : Bool). or-rest here i (first_from names (suc i) name)) same, omega arith)
first-found (Some own ∷ names) i name (suc k) is = by (own == name) refl (first-found names (suc i) name k is)
  where
    by : (here : Bool) → (own == name) ≡ here → (p : ℕ) × (first_from names (suc i) name ≡ Some p) × (p ≤ suc i + k) → (p : ℕ) × (first_from (Some own ∷ names) i name ≡ Some p) × (p ≤ i + suc k)
    by true same rest = (i, ap (λ (here : Bool). or-rest here i (first_from names (suc i) name)) same, omega arith)
    by false other rest = (
      rest.0,
      ap (λ (here : Bool). or-rest here i (first_from names (suc i) name)) other ∙ rest.1,
      omega (arith, rest.2),
    )

module _ {A : Type 0} (f : A → Option ℕ) where
  -- what has a name in a list that is made of another comes of an item of it
  pub map-has : (xs : List A) (k name : ℕ) → slice_index_or (map f xs) k None ≡ Some name → (x : A) × (slice_get xs k ≡ Some x) × (f x ≡ Some name)
  map-has [] k name is = absurd (none-some name is)
  map-has (x ∷ xs) zero name is = (x, refl, is)
  map-has (x ∷ xs) (suc k) name is = map-has xs k name is

  pub map-at : (xs : List A) (k : ℕ) (x : A) → slice_get xs k ≡ Some x → slice_index_or (map f xs) k None ≡ f x
  map-at [] k x is = absurd (none-some x is)
  map-at (y ∷ xs) zero x is = ap f (same_Some y x is)
  map-at (y ∷ xs) (suc k) x is = map-at xs k x is
