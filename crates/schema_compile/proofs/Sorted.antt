-- Two strictly sorted lists of the same numbers are the same list.
use Rattle.std.proofs.Common.{◌≡◌, inl, inr, ℕ, zero, suc, ◌<◌, ◌⊎◌, List, [], ◌∷◌, length, get_or, refl, sym, ◌∙◌, subst, arith}
use Rattle.std.specs.Prelude.{Contains}
use Rattle.std.specs.Cmp.{IsTotalOrder}
use Rattle.std.specs.List.Sorted.{IsStrictlySortedBy}
use Rattle.std.specs.Ordering.{ordering_reverse}
use Rattle.std.specs.declared.cmp.Ordering.{Ordering}
use Rattle.std.specs.declared.cmp.Ordering.TheVariants.{Less}
use Rattle.std.proofs.lemmas.List.Elements.{All-contains}
use Rattle.std.proofs.lemmas.Map.Keys.{sorted_tail}
use Rattle.std.proofs.lemmas.Map.Views.{All-after_first}

first-in : (x : ℕ) (xs : List ℕ) → Contains (x ∷ xs) x
first-in x xs = (0, omega arith, refl)

later-in : (x : ℕ) (xs : List ℕ) (z : ℕ) → Contains xs z → Contains (x ∷ xs) z
later-in x xs z has = (suc has.0, omega (arith, has.1), has.2)

in-by : (y : ℕ) (ys : List ℕ) (x k : ℕ) → k < length (y ∷ ys) → get_or (y ∷ ys) k x ≡ x → (y ≡ x) ⊎ Contains ys x
in-by y ys x zero within e = inl e
in-by y ys x (suc k) within e = inr (k, omega (arith, within), e)

none-in : (x : ℕ) → Contains [] x → ⊥
none-in x has = absurd (omega (arith, has.1))

turned-less : (o : Ordering) → o ≡ Less → Less ≡ ordering_reverse o → ⊥
turned-less o e f = absurd (let g : Less ≡ ordering_reverse Less = subst (λ p. Less ≡ ordering_reverse p) e f in cc)

-- no two are each before the other
pub never-both : (c : ℕ → ℕ → Ordering) → IsTotalOrder c → (x y : ℕ) → c x y ≡ Less → c y x ≡ Less → ⊥
never-both c order x y there back = turned-less (c y x) back (sym there ∙ order.antisymm x y)

module _ (c : ℕ → ℕ → Ordering) (apart : (x y : ℕ) → c x y ≡ Less → c y x ≡ Less → ⊥) where
  -- what stands behind the first is after it
  behind : (x : ℕ) (xs : List ℕ) (z : ℕ) → IsStrictlySortedBy c (x ∷ xs) → Contains xs z → c x z ≡ Less
  behind x xs z up has = All-contains (λ q. c x q ≡ Less) xs z (All-after_first c x xs up) has

  first-same : (x y : ℕ) (xs ys : List ℕ) → IsStrictlySortedBy c (x ∷ xs) → IsStrictlySortedBy c (y ∷ ys) → Contains (y ∷ ys) x → Contains (x ∷ xs) y → x ≡ y
  first-same x y xs ys up vp there back = elim (in-by y ys x there.0 there.1 there.2) [
    | inl e ↦ sym e
    | inr later ↦ elim (in-by x xs y back.0 back.1 back.2) [
      | inl e ↦ e
      | inr other ↦ absurd (apart x y (behind x xs y up other) (behind y ys x vp later))
    ]
  ]

  -- what stands behind two firsts that are the same
  rest-in : (x y : ℕ) (xs ys : List ℕ) → x ≡ y → IsStrictlySortedBy c (x ∷ xs) → ((z : ℕ) → Contains (x ∷ xs) z → Contains (y ∷ ys) z) → (z : ℕ) → Contains xs z → Contains ys z
  rest-in x y xs ys same up into z has =
      let there = into z (later-in x xs z has) in
      elim (in-by y ys z there.0 there.1 there.2) [
        | inl first ↦
            (let less : c x x ≡ Less = subst (λ w. c x w ≡ Less) (sym (same ∙ first)) (behind x xs z up has) in
            absurd (apart x x less less))
        | inr later ↦ later
      ]

  pub same-list : (xs ys : List ℕ) → IsStrictlySortedBy c xs → IsStrictlySortedBy c ys →
      ((z : ℕ) → Contains xs z → Contains ys z) → ((z : ℕ) → Contains ys z → Contains xs z) → xs ≡ ys
  same-list [] [] up vp into back = refl
  same-list [] (y ∷ ys) up vp into back = absurd (none-in y (back y (first-in y ys)))
  same-list (x ∷ xs) [] up vp into back = absurd (none-in x (into x (first-in x xs)))
  same-list (x ∷ xs) (y ∷ ys) up vp into back =
      let first : x ≡ y = first-same x y xs ys up vp (into x (first-in x xs)) (back y (first-in y ys)) in
      let rest = same-list xs ys (sorted_tail c x xs up) (sorted_tail c y ys vp) (rest-in x y xs ys first up into) (rest-in y x ys xs (sym first) vp back) in
      λ i. first i ∷ rest i
