-- How many items up to a place pass a test, and what stands at those.
use Rattle.std.proofs.Common.{◌≡◌, ℕ, zero, suc, ◌+◌, ◌<◌, ◌≤◌, List, [], ◌∷◌, ◌++◌, Bool, true, false, not, cond, length, take, get_or, refl, sym, ap, ◌∙◌, inl, inr, arith, count_by}
use Rattle.std.specs.Prelude.{filter}
use Rattle.std.specs.List.{flat_map}
use Rattle.std.proofs.Math.Seq.{take-length}
use Rattle.std.proofs.lemmas.Bool.{cases_lt}
use Rattle.std.proofs.lemmas.Grind.{flat_map-append}
use Rattle.std.proofs.lemmas.List.{append-nil, length-take-le, take_all, take_more}
use Rattle.std.proofs.lemmas.List.Filters.{length-filter_both}
use Rattle.std.proofs.lemmas.List.Sums.{length-filter, sum_by-cons, sum_by_more}

module _ (p : ℕ → Bool) where
  abbrev passes : ℕ → Bool
  passes x = not (p x)

  abbrev weight : ℕ → ℕ
  weight x = cond (passes x) 1 0

  abbrev pub upto : List ℕ → ℕ → ℕ
  upto xs k = count_by passes (take k xs)

  pub upto-cons : (x : ℕ) (xs : List ℕ) (k : ℕ) → upto (x ∷ xs) (suc k) ≡ cond (passes x) 1 0 + upto xs k
  upto-cons x xs k = sum_by-cons (λ y. cond (passes y) 1 0) x (take k xs)

  -- those that pass, and those that do not
  pub upto-is : (xs : List ℕ) (k : ℕ) → k ≤ length xs → k ≡ upto xs k + length (filter p (take k xs))
  upto-is xs k within =
      let both = length-filter_both p passes (λ x. refl) (take k xs) in
      let counted = length-filter passes (take k xs) in
      let size = length-take-le k xs within in
      omega (arith, both, counted, size)

  pub upto-more : (xs : List ℕ) (k : ℕ) → k < length xs → upto xs (k + 1) ≡ upto xs k + cond (passes (get_or xs k 0)) 1 0
  upto-more xs k lt = sum_by_more (λ y. cond (passes y) 1 0) xs k 0 lt

  -- no fewer up to a later place
  pub upto-rises : (xs : List ℕ) (j k : ℕ) → j ≤ k → upto xs j ≤ upto xs k
  upto-rises [] zero zero le = omega arith
  upto-rises [] zero (suc k) le = omega arith
  upto-rises [] (suc j) zero le = omega arith
  upto-rises [] (suc j) (suc k) le = omega arith
  upto-rises (x ∷ xs) zero k le = omega arith
  upto-rises (x ∷ xs) (suc j) zero le = absurd (omega arith)
  upto-rises (x ∷ xs) (suc j) (suc k) le =
      let a = upto-cons x xs j in let b = upto-cons x xs k in let i = upto-rises xs j k (omega arith) in omega (arith, a, b, i)

  module _ {A : Type 0} (f : ℕ → List A) (silent : (x : ℕ) → p x ≡ true → f x ≡ []) where
    pub same-upto : (xs : List ℕ) (j k : ℕ) → j ≤ k → upto xs k ≡ upto xs j → flat_map f (take k xs) ≡ flat_map f (take j xs)
    same-upto [] zero zero le e = refl
    same-upto [] zero (suc k) le e = refl
    same-upto [] (suc j) zero le e = refl
    same-upto [] (suc j) (suc k) le e = refl
    same-upto (x ∷ xs) zero zero le e = refl
    same-upto (x ∷ xs) (suc j) zero le e = absurd (omega arith)
    same-upto (x ∷ xs) zero (suc k) le e =
        let a = upto-cons x xs k in
        elim (p x) as (λ b. p x ≡ b → flat_map f (x ∷ take k xs) ≡ []) [
          | true ↦ λ is. ap (λ y. y ++ flat_map f (take k xs)) (silent x is) ∙ same-upto xs zero k (omega arith) (omega (arith, a, e))
          | false ↦ λ is. let own : weight x ≡ 1 = ap (λ b. cond (not b) 1 0) is in absurd (omega (arith, a, own, e))
        ] refl
    same-upto (x ∷ xs) (suc j) (suc k) le e =
        let a = upto-cons x xs j in let b = upto-cons x xs k in ap (λ ys. f x ++ ys) (same-upto xs j k (omega arith) (omega (arith, a, b, e)))

  -- the next one passes, where there are more up to behind it
  pub next-passes : (xs : List ℕ) (k : ℕ) → k < length xs → (upto xs (k + 1) ≡ upto xs k → ⊥) → upto xs (k + 1) ≡ upto xs k + 1
  next-passes xs k lt more =
      let own = upto-more xs k lt in
      elim (passes (get_or xs k 0)) as (λ b. passes (get_or xs k 0) ≡ b → upto xs (k + 1) ≡ upto xs k + 1) [
        | true ↦ λ is. let one : weight (get_or xs k 0) ≡ 1 = ap (λ b. cond b 1 0) is in omega (arith, own, one)
        | false ↦ λ is. let no : weight (get_or xs k 0) ≡ 0 = ap (λ b. cond b 1 0) is in absurd (more (omega (arith, own, no)))
      ] refl

  -- it stands there
  pub there : (xs : List ℕ) (k : ℕ) → upto xs (k + 1) ≡ upto xs k + 1 → k < length xs
  there xs k more = elim (cases_lt k (length xs)) [
    | inl lt ↦ lt
    | inr past ↦ let a : take k xs ≡ xs = take_all k xs past in let b : take (k + 1) xs ≡ xs = take_all (k + 1) xs (omega arith) in
        let same : upto xs (k + 1) ≡ upto xs k = ap (count_by passes) (b ∙ sym a) in absurd (omega arith)
  ]

  module _ {A : Type 0} (f : ℕ → List A) (silent : (x : ℕ) → p x ≡ true → f x ≡ []) where
    -- what stands up to behind the next one that passes
    pub so-far : (xs : List ℕ) (j k : ℕ) → j ≤ k → k < length xs → upto xs k ≡ upto xs j → flat_map f (take (k + 1) xs) ≡ flat_map f (take j xs) ++ f (get_or xs k 0)
    so-far xs j k le lt e =
        ap (flat_map f) (take_more xs k 0 lt) ∙ flat_map-append f (take k xs) (get_or xs k 0 ∷ [])
        ∙ ap (λ ys. ys ++ flat_map f (get_or xs k 0 ∷ [])) (same-upto f silent xs j k le e) ∙ ap (λ ys. flat_map f (take j xs) ++ ys) (append-nil (f (get_or xs k 0)))

    -- no more pass
    pub all-so-far : (xs : List ℕ) (j : ℕ) → j ≤ length xs → upto xs (length xs) ≡ upto xs j → flat_map f (take j xs) ≡ flat_map f xs
    all-so-far xs j le e = sym (same-upto f silent xs j (length xs) le e) ∙ ap (flat_map f) (take-length xs)
