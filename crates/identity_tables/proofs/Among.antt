-- Elements of lists that pass a test.
use Rattle.std.proofs.Common.{◌≡◌, ◌⊎◌, ◌||◌, inl, inr, ℕ, ◌+◌, ◌≤◌, Bool, true, false, cond, List, [], ◌∷◌, map, length, filter, refl, sym, ◌∙◌, ap, arith, ⊎_elim}
use Rattle.std.specs.List.{list_any, count_by}
use Rattle.std.proofs.lemmas.Bool.{cases_Bool, true≢false}
use Rattle.std.proofs.lemmas.List.Sums.{sum_by-cons}

-- x is an element of the list
abbrev pub Among : {X : Type 0} → X → List X → Type 0
Among x [] = ⊥
Among x (y ∷ ys) = (y ≡ x) ⊎ Among x ys

module _ {X : Type 0} (p : X → Bool) where
  one-more : (x : X) (xs : List X) → count_by p (x ∷ xs) ≡ cond (p x) 1 0 + count_by p xs
  one-more x xs = sum_by-cons (λ x. cond (p x) 1 0) x xs

  pub counted : (x : X) (xs : List X) → Among x xs → p x ≡ true → 1 ≤ count_by p xs
  counted x [] there passes = absurd there
  counted x (y ∷ ys) (inl same) passes =
      let here : cond {A = ℕ} (p y) 1 0 ≡ 1 = ap (λ b. cond {A = ℕ} b 1 0) (ap p same ∙ passes) in
      let all = one-more y ys in
      omega arith
  counted x (y ∷ ys) (inr later) passes =
      let rest = counted x ys later passes in
      let all = one-more y ys in
      omega arith

  pub counted-one : (xs : List X) → 1 ≤ count_by p xs → (x : X) × (p x ≡ true) × Among x xs
  counted-one [] some = absurd (omega arith)
  counted-one (y ∷ ys) some =
      ⊎_elim
      (λ (yes : p y ≡ true). (y, yes, inl refl))
      (λ (no : p y ≡ false).
      let here : cond {A = ℕ} (p y) 1 0 ≡ 0 = ap (λ b. cond {A = ℕ} b 1 0) no in
      let all = one-more y ys in
      let rest = counted-one ys (omega arith) in
      (rest.0, rest.1, inr rest.2))
      (cases_Bool (p y))

  pub any-of : (x : X) (xs : List X) → Among x xs → p x ≡ true → list_any p xs ≡ true
  any-of x [] there passes = absurd there
  any-of x (y ∷ ys) (inl same) passes = rw (ap p same ∙ passes) refl
  any-of x (y ∷ ys) (inr later) passes = elim (p y) as (λ b. (b || list_any p ys) ≡ true) [ true ↦ refl | false ↦ any-of x ys later passes ]

  pub any-one : (xs : List X) → list_any p xs ≡ true → (x : X) × (p x ≡ true) × Among x xs
  any-one [] some = absurd (true≢false (sym some))
  any-one (y ∷ ys) some =
      ⊎_elim
      (λ (yes : p y ≡ true). (y, yes, inl refl))
      (λ (no : p y ≡ false). let rest = any-one ys (rw no at some) in (rest.0, rest.1, inr rest.2))
      (cases_Bool (p y))

  pub filtered : (x : X) (xs : List X) → Among x xs → p x ≡ true → Among x (filter p xs)
  filtered x [] there passes = absurd there
  filtered x (y ∷ ys) (inl same) passes = rw (ap p same ∙ passes) (inl same)
  filtered x (y ∷ ys) (inr later) passes = elim (p y) as (λ b. Among x (cond b (y ∷ filter p ys) (filter p ys))) [ true ↦ inr (filtered x ys later passes) | false ↦ filtered x ys later passes ]

  pub filtered-from : (x : X) (xs : List X) → Among x (filter p xs) → (p x ≡ true) × Among x xs
  filtered-from x [] there = absurd there
  filtered-from x (y ∷ ys) there =
      ⊎_elim
      (λ (yes : p y ≡ true). ⊎_elim
      (λ same. (ap p (sym same) ∙ yes, inl same))
      (λ later. let rest = filtered-from x ys later in (rest.0, inr rest.1))
      (rw yes at there))
      (λ (no : p y ≡ false). let rest = filtered-from x ys (rw no at there) in (rest.0, inr rest.1))
      (cases_Bool (p y))

module _ {X Y : Type 0} (f : X → Y) where
  pub mapped : (x : X) (xs : List X) → Among x xs → Among (f x) (map f xs)
  mapped x [] there = absurd there
  mapped x (y ∷ ys) (inl same) = inl (ap f same)
  mapped x (y ∷ ys) (inr later) = inr (mapped x ys later)

  pub mapped-from : (y : Y) (xs : List X) → Among y (map f xs) → (x : X) × (f x ≡ y) × Among x xs
  mapped-from y [] there = absurd there
  mapped-from y (x ∷ xs) (inl same) = (x, same, inl refl)
  mapped-from y (x ∷ xs) (inr later) = let rest = mapped-from y xs later in (rest.0, rest.1, inr rest.2)

-- a list with an element is not empty
pub some-length : {X : Type 0} (x : X) (xs : List X) → Among x xs → 1 ≤ length xs
some-length x [] there = absurd there
some-length x (y ∷ ys) there = omega arith

pub first-among : {X : Type 0} (xs : List X) → 1 ≤ length xs → (x : X) × Among x xs
first-among [] some = absurd (omega arith)
first-among (x ∷ xs) some = (x, inl refl)
