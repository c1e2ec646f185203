-- The item behind so many in a list in order.
use Rattle.std.proofs.Common.{◌≡◌, ℕ, ◌+◌, ◌*◌, ◌^◌, ◌<◌, ◌≤◌, ◌⊎◌, inl, inr, zero, suc, Bool, true, not, cond, ◌==◌, if◌then◌else◌, List, [], ◌∷◌, None, Some, length, drop, ◌++◌, append_assoc, get_or, refl, sym, ap, ◌∙◌, subst, arith}
use Rattle.std.specs.Prelude.{All, Contains, nat_lt}
use Rattle.std.specs.List.{count_by, flat_map}
use Rattle.std.proofs.lemmas.List.{drop_more}
use Rattle.std.specs.List.Sorted.{IsPermutation, IsNonDecreasingBy}
use Rattle.std.proofs.lemmas.Bool.Decides.{nat_tests}
use Rattle.std.proofs.lemmas.Bool.{cases_lt}
use Rattle.std.proofs.lemmas.List.Elements.{All-head, All-tail, All-contains, All-weaker, Contains-get_or}
use Rattle.std.proofs.lemmas.List.Sorted.{All-permutation, Contains-permutation, IsPermutation-sym, sum_by-IsPermutation}
use Rattle.std.proofs.lemmas.List.Sums.{sum_by-cons, count_by-le-length}
use Rattle.xs_components.specs.declared.common.Place.{Place}
use Rattle.representations.specs.declared.parts.Representation.{Representation}
use Rattle.reference_faults.specs.Limit.{is_component, place_of, comes_before, IsPastLimit}
use Rattle.reference_faults.specs.declared.limit.TheConstants.{MAX_COMPONENTS}
use Rattle.reference_faults.specs.inside.Limits.{IsLimit}

abbrev one_if : Bool → ℕ
one_if b = cond b 1 0

below-one : (a k : ℕ) → a < k → one_if (nat_lt a k) ≡ 1
below-one a k h = grind (arith, nat_tests)

below-none : (a k : ℕ) → k ≤ a → one_if (nat_lt a k) ≡ 0
below-none a k h = grind (arith, nat_tests)

through-one : (a k : ℕ) → a ≤ k → one_if (not (nat_lt k a)) ≡ 1
through-one a k h = grind (arith, nat_tests)

through-none : (a k : ℕ) → k < a → one_if (not (nat_lt k a)) ≡ 0
through-none a k h = grind (arith, nat_tests)

module _ {X : Type 0} (n : X → ℕ) where
  -- how many are below a number, and how many are not above it
  abbrev below : ℕ → List X → ℕ
  below k xs = count_by (λ x. nat_lt (n x) k) xs

  abbrev through : ℕ → List X → ℕ
  through k xs = count_by (λ x. not (nat_lt k (n x))) xs

  abbrev Rises : List X → Type 0
  Rises [] = Unit {0}
  Rises (x ∷ xs) = All (λ y. n x ≤ n y) xs × Rises xs

  below-cons : (k : ℕ) (x : X) (xs : List X) → below k (x ∷ xs) ≡ one_if (nat_lt (n x) k) + below k xs
  below-cons k x xs = sum_by-cons (λ x. one_if (nat_lt (n x) k)) x xs

  through-cons : (k : ℕ) (x : X) (xs : List X) → through k (x ∷ xs) ≡ one_if (not (nat_lt k (n x))) + through k xs
  through-cons k x xs = sum_by-cons (λ x. one_if (not (nat_lt k (n x)))) x xs

  none-below : (k : ℕ) (xs : List X) → All (λ x. k ≤ n x) xs → below k xs ≡ 0
  none-below k [] all = refl
  none-below k (x ∷ xs) all = omega (arith, below-cons k x xs, below-none (n x) k (All-head (λ x. k ≤ n x) x xs all), none-below k xs (All-tail (λ x. k ≤ n x) x xs all))

  none-through : (k : ℕ) (xs : List X) → All (λ x. k < n x) xs → through k xs ≡ 0
  none-through k [] all = refl
  none-through k (x ∷ xs) all = omega (arith, through-cons k x xs, through-none (n x) k (All-head (λ x. k < n x) x xs all), none-through k xs (All-tail (λ x. k < n x) x xs all))

  rises-from : (xs : List X) → IsNonDecreasingBy n xs → Rises xs
  rises-from [] up = tt
  rises-from (x ∷ xs) up = (λ i d h. up 0 (suc i) d (omega arith) (omega (arith, h)), rises-from xs (λ i j d le lt. up (suc i) (suc j) d (omega (arith, le)) (omega (arith, lt))))

  -- where no more than m are below k, and more than m not above it, k is that of the item behind m
  limit-at : (xs : List X) → Rises xs → (m k : ℕ) → below k xs ≤ m → m < through k xs → (d : X) → n (get_or xs m d) ≡ k
  limit-at [] up m k b t d = absurd (omega (arith, t))
  limit-at (x ∷ xs) up zero k b t d = elim (cases_lt (n x) k) [
    | inl less ↦ absurd (omega (arith, b, below-cons k x xs, below-one (n x) k less))
    | inr from ↦ elim (cases_lt k (n x)) [
      | inl more ↦ absurd (omega (arith, t, through-cons k x xs, through-none (n x) k more, none-through k xs (All-weaker (λ y. n x ≤ n y) (λ y. k < n y) (λ y h. omega (arith, h, more)) xs up.0)))
      | inr to ↦ omega (arith, from, to)
    ]
  ]
  limit-at (x ∷ xs) up (suc m) k b t d = elim (cases_lt k (n x)) [
    | inl more ↦ absurd (omega (arith, t, through-cons k x xs, through-none (n x) k more, none-through k xs (All-weaker (λ y. n x ≤ n y) (λ y. k < n y) (λ y h. omega (arith, h, more)) xs up.0)))
    | inr to ↦ limit-at xs up.1 m k (fewer to) (omega (arith, t, through-cons k x xs, through-one (n x) k to)) d
  ]
    where
      fewer : n x ≤ k → below k xs ≤ m
      fewer to = elim (cases_lt (n x) k) [
        | inl less ↦ omega (arith, b, below-cons k x xs, below-one (n x) k less)
        | inr from ↦ omega (arith, none-below k xs (All-weaker (λ y. n x ≤ n y) (λ y. k ≤ n y) (λ y h. omega (arith, h, to, from)) xs up.0))
      ]

  -- the item behind m has no more than m below it, and more than m not above it
  at-limit : (xs : List X) → Rises xs → (m : ℕ) (d : X) → m < length xs → (below (n (get_or xs m d)) xs ≤ m) × (m < through (n (get_or xs m d)) xs)
  at-limit [] up m d h = absurd (omega (arith, h))
  at-limit (x ∷ xs) up zero d h = (
    omega (arith, below-cons (n x) x xs, below-none (n x) (n x) (omega arith), none-below (n x) xs up.0),
    omega (arith, through-cons (n x) x xs, through-one (n x) (n x) (omega arith)),
  )
  at-limit (x ∷ xs) up (suc m) d h =
      let k = n (get_or xs m d) in
      let on = at-limit xs up.1 m d (omega (arith, h)) in
      let le : n x ≤ k = up.0 m d (omega (arith, h)) in
      (few k on.0 (cases_lt (n x) k), omega (arith, on.1, through-cons k x xs, through-one (n x) k le))
    where
      few : (k : ℕ) → below k xs ≤ m → (n x < k) ⊎ (k ≤ n x) → below k (x ∷ xs) ≤ suc m
      few k h (inl less) = omega (arith, h, below-cons k x xs, below-one (n x) k less)
      few k h (inr from) = omega (arith, h, below-cons k x xs, below-none (n x) k from)

-- a place as a number
abbrev pub place_key : Place → ℕ
place_key at = at.document * 2 ^ 32 + at.item

before-numbers : (a b x y : ℕ) → b < 2 ^ 32 → y < 2 ^ 32 → (if a == x then nat_lt b y else nat_lt a x) ≡ nat_lt (a * 2 ^ 32 + b) (x * 2 ^ 32 + y)
before-numbers a b x y h k = grind (arith, nat_tests)

before-key : (a b : Place) → a.item < 2 ^ 32 → b.item < 2 ^ 32 → comes_before a b ≡ nat_lt (place_key a) (place_key b)
before-key a b h k = before-numbers a.document a.item b.document b.item h k

abbrev IsWithin : Place → Type 0
IsWithin at = at.item < 2 ^ 32

count-before : (at : Place) → IsWithin at → (places : List Place) → All IsWithin places → count_by (λ p. comes_before p at) places ≡ below place_key (place_key at) places
count-before at h [] all = refl
count-before at h (p ∷ ps) all =
    let one = ap one_if (before-key p at (All-head IsWithin p ps all) h) in
    omega (arith, sum_by-cons (λ p. one_if (comes_before p at)) p ps, one, below-cons place_key (place_key at) p ps, count-before at h ps (All-tail IsWithin p ps all))

count-through : (at : Place) → IsWithin at → (places : List Place) → All IsWithin places → count_by (λ p. not (comes_before at p)) places ≡ through place_key (place_key at) places
count-through at h [] all = refl
count-through at h (p ∷ ps) all =
    let one = ap (λ (b : Bool). one_if (not b)) (before-key at p h (All-head IsWithin p ps all)) in
    omega (arith, sum_by-cons (λ p. one_if (not (comes_before at p))) p ps, one, through-cons place_key (place_key at) p ps, count-through at h ps (All-tail IsWithin p ps all))

same-numbers : (a b x y : ℕ) → b < 2 ^ 32 → y < 2 ^ 32 → a * 2 ^ 32 + b ≡ x * 2 ^ 32 + y → (a ≡ x) × (b ≡ y)
same-numbers a b x y h k e = (omega (arith, h, k, e), omega (arith, h, k, e))

abbrev place : ℕ → ℕ → Place
place document item = record { document = document; item = item }

same-parts : (a b x y : ℕ) → a ≡ x → b ≡ y → place a b ≡ place x y
same-parts a b x y e f = cc

same-place : (p q : Place) → IsWithin p → IsWithin q → place_key p ≡ place_key q → p ≡ q
same-place p q h k e = let s = same-numbers p.document p.item q.document q.item h k e in same-parts p.document p.item q.document q.item s.0 s.1

-- the place behind the limit among all in order is the one past it
module _ (places sorted : List Place) (perm : IsPermutation places sorted) (up : IsNonDecreasingBy place_key sorted) (all : All IsWithin places) where
  all-sorted : All IsWithin sorted
  all-sorted = All-permutation IsWithin places sorted perm all

  before-sorted : (at : Place) → IsWithin at → count_by (λ p. comes_before p at) places ≡ below place_key (place_key at) sorted
  before-sorted at h = sym (sum_by-IsPermutation (λ p. one_if (comes_before p at)) places sorted perm) ∙ count-before at h sorted all-sorted

  through-sorted : (at : Place) → IsWithin at → count_by (λ p. not (comes_before at p)) places ≡ through place_key (place_key at) sorted
  through-sorted at h = sym (sum_by-IsPermutation (λ p. one_if (not (comes_before at p))) places sorted perm) ∙ count-through at h sorted all-sorted

  pub limit-place : (at : Place) → MAX_COMPONENTS < length sorted → at ≡ get_or sorted MAX_COMPONENTS at → IsLimit places (Some at)
  limit-place at long is =
      let there : Contains sorted at = subst (Contains sorted) (sym is) (Contains-get_or sorted MAX_COMPONENTS at long) in
      let h : IsWithin at = All-contains IsWithin sorted at all-sorted there in
      let on = at-limit place_key sorted (rises-from place_key sorted up) MAX_COMPONENTS at long in
      let k : place_key (get_or sorted MAX_COMPONENTS at) ≡ place_key at = ap place_key (sym is) in (
        record {
          there = Contains-permutation sorted places at (IsPermutation-sym places sorted perm) there;
          before = subst (λ c. c ≤ MAX_COMPONENTS) (sym (before-sorted at h)) (subst (λ k. below place_key k sorted ≤ MAX_COMPONENTS) k on.0);
          through = subst (λ c. MAX_COMPONENTS < c) (sym (through-sorted at h)) (subst (λ k. MAX_COMPONENTS < through place_key k sorted) k on.1);
        },
        only,
      )
    where
      only : (other : Place) → IsPastLimit places other → other ≡ at
      only other past =
          let w : IsWithin other = All-contains IsWithin places other all past.there in
          let t : IsWithin at = All-contains IsWithin sorted at all-sorted (subst (Contains sorted) (sym is) (Contains-get_or sorted MAX_COMPONENTS at long)) in
          let e = limit-at place_key sorted (rises-from place_key sorted up) MAX_COMPONENTS (place_key other)
          (subst (λ c. c ≤ MAX_COMPONENTS) (before-sorted other w) past.before) (subst (λ c. MAX_COMPONENTS < c) (through-sorted other w) past.through) at in
          same-place other at w t (sym e ∙ ap place_key (sym is))

-- few components have none past the limit
pub no-limit : (places : List Place) → length places ≤ MAX_COMPONENTS → IsLimit places None
no-limit places few at past = absurd (omega (arith, few, past.through, count_by-le-length (λ p. not (comes_before at p)) places))

-- a component more
pub places-more : (reps : List Representation) (i : ℕ) (rep : Representation) (done now : List Place) → i < length reps → rep ≡ get_or reps i rep → is_component rep.form ≡ true → now ≡ done ++ rep.at ∷ []
    → done ++ flat_map place_of (drop i reps) ≡ flat_map place_of reps → now ++ flat_map place_of (drop (i + 1) reps) ≡ flat_map place_of reps
places-more reps i rep done now within is component more before =
    let rest = flat_map place_of (drop (i + 1) reps) in
    let front : drop i reps ≡ rep ∷ drop (i + 1) reps = drop_more reps i rep within ∙ ap (λ (r : Representation). r ∷ drop (i + 1) reps) (sym is) in
    let one : place_of rep ≡ rep.at ∷ [] = rw component refl in
    let all : flat_map place_of (drop i reps) ≡ place_of rep ++ rest = ap (flat_map place_of) front in
    ap (λ ps. ps ++ rest) more ∙ append_assoc done (rep.at ∷ []) rest ∙ ap (λ ps. done ++ (ps ++ rest)) (sym one) ∙ ap (λ ps. done ++ ps) (sym all) ∙ before
