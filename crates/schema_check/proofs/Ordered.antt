-- Two lists in order that have the same items, up to what is not told apart, are the same.
use Rattle.std.proofs.Common.{◌≡◌, inl, inr, ℕ, zero, suc, ◌<◌, ◌⊎◌, List, [], ◌∷◌, Some, length, get_or, slice_get, refl, sym, ap, ◌∙◌, subst, arith}
use Rattle.std.specs.Prelude.{Contains}
use Rattle.std.specs.List.{AllZip}
use Rattle.std.proofs.lemmas.Option.{slice_get-get_or}

-- each item is before each later one
abbrev pub AreOrdered : {X : Type 0} → (X → X → Type 0) → List X → Type 0
AreOrdered {X} Before xs = (m n : ℕ) (d e : X) → m < n → slice_get xs m ≡ Some d → slice_get xs n ≡ Some e → Before d e

module _ {X : Type 0} where
  first-in : (x : X) (xs : List X) → Contains (x ∷ xs) x
  first-in x xs = (zero, omega arith, refl)

  later-in : (x : X) (xs : List X) (z : X) → Contains xs z → Contains (x ∷ xs) z
  later-in x xs z has = (suc has.0, omega (arith, has.1), has.2)

  none-in : (x : X) → Contains [] x → ⊥
  none-in x has = absurd (omega (arith, has.1))

  in-by : (y : X) (ys : List X) (x : X) (k : ℕ) → k < length (y ∷ ys) → get_or (y ∷ ys) k x ≡ x → (y ≡ x) ⊎ Contains ys x
  in-by y ys x zero within e = inl e
  in-by y ys x (suc k) within e = inr (k, omega (arith, within), e)

  cases-in : (y : X) (ys : List X) (x : X) → Contains (y ∷ ys) x → (y ≡ x) ⊎ Contains ys x
  cases-in y ys x has = in-by y ys x has.0 has.1 has.2

  -- each item of a list is one of another
  abbrev pub AreAmong : (X → X → Type 0) → List X → List X → Type 0
  AreAmong Same xs ys = (x : X) → Contains xs x → (y : X) × Contains ys y × Same x y

  -- that of two items that are in order the first is not the second of two others
  module _ (Same : X → X → Type 0) (turned : (x y : X) → Same x y → Same y x) (Before : X → X → Type 0)
      (never : (x y z w : X) → Same x w → Same y z → Before x y → Before z w → ⊥)
      (apart : (x z y : X) → Before x z → Same x y → Same z y → ⊥) where
    behind : (x : X) (xs : List X) (z : X) → AreOrdered Before (x ∷ xs) → Contains xs z → Before x z
    behind x xs z up has = up zero (suc has.0) x z (omega arith) refl (slice_get-get_or xs has.0 z has.1 ∙ ap Some has.2)

    tail-ordered : (x : X) (xs : List X) → AreOrdered Before (x ∷ xs) → AreOrdered Before xs
    tail-ordered x xs up m n d e low at_m at_n = up (suc m) (suc n) d e (omega (arith, low)) at_m at_n

    first-same : (x y : X) (xs ys : List X) → AreOrdered Before (x ∷ xs) → AreOrdered Before (y ∷ ys) → AreAmong Same (x ∷ xs) (y ∷ ys) → AreAmong Same (y ∷ ys) (x ∷ xs) → Same x y
    first-same x y xs ys up vp into back =
        let p = into x (first-in x xs) in
        let q = back y (first-in y ys) in
        elim (cases-in y ys p.0 p.1) [
          | inl e ↦ subst (Same x) (sym e) p.2
          | inr later ↦ elim (cases-in x xs q.0 q.1) [
            | inl e ↦ turned y x (subst (Same y) (sym e) q.2)
            | inr other ↦ absurd (never x q.0 y p.0 p.2 (turned y q.0 q.2) (behind x xs q.0 up other) (behind y ys p.0 vp later))
          ]
        ]

    -- what stands behind two firsts that are the same
    rest-among : (x y : X) (xs ys : List X) → Same x y → AreOrdered Before (x ∷ xs) → AreAmong Same (x ∷ xs) (y ∷ ys) → AreAmong Same xs ys
    rest-among x y xs ys same up into z has =
        let p = into z (later-in x xs z has) in
        elim (cases-in y ys p.0 p.1) [
          | inl e ↦ absurd (apart x z y (behind x xs z up has) same (subst (Same z) (sym e) p.2))
          | inr later ↦ (p.0, later, p.2)
        ]

    pub ordered-same : (xs ys : List X) → AreOrdered Before xs → AreOrdered Before ys → AreAmong Same xs ys → AreAmong Same ys xs → AllZip Same xs ys
    ordered-same [] [] up vp into back = tt
    ordered-same [] (y ∷ ys) up vp into back = absurd (none-in (back y (first-in y ys)).0 (back y (first-in y ys)).1)
    ordered-same (x ∷ xs) [] up vp into back = absurd (none-in (into x (first-in x xs)).0 (into x (first-in x xs)).1)
    ordered-same (x ∷ xs) (y ∷ ys) up vp into back =
        let first = first-same x y xs ys up vp into back in
        (first, ordered-same xs ys (tail-ordered x xs up) (tail-ordered y ys vp) (rest-among x y xs ys first up into) (rest-among y x ys xs (turned x y first) vp back))
