-- Two lists of the same numbers, each once, that are in one order are the same list.
use Rattle.std.proofs.Common.{◌≡◌, inl, inr, ℕ, zero, suc, ◌+◌, ◌<◌, ◌⊎◌, Bool, true, false, List, [], ◌∷◌, length, get_or, refl, sym, ◌∙◌, subst, arith, true≢false}
use Rattle.std.specs.Prelude.{All, Contains, nat_eq}
use Rattle.std.specs.Cmp.{IsStrictWeakOrder}
use Rattle.std.specs.List.{IsDistinct}
use Rattle.std.specs.List.Sorted.{IsSortedBy}
use Rattle.std.proofs.lemmas.Cmp.{nat_eq_equiv}
use Rattle.std.proofs.lemmas.List.Elements.{All-head, All-tail}
use Rattle.std.proofs.lemmas.List.Sorted.{sorted_far}
use Rattle.std.proofs.lemmas.Map.Keys.{IsDistinct-tail, apart_from_distinct}

-- the items of both lists are the same
pub record HasSame (xs ys : List ℕ) : Type 0 where
  pub into : (z : ℕ) → Contains xs z → Contains ys z
  pub back : (z : ℕ) → Contains ys z → Contains xs z

first-in : (x : ℕ) (xs : List ℕ) → Contains (x ∷ xs) x
first-in x xs = (0, omega arith, refl)

later-in : (x : ℕ) (xs : List ℕ) (z : ℕ) → Contains xs z → Contains (x ∷ xs) z
later-in x xs z has = (suc has.0, omega (arith, has.1), has.2)

in-by : (y : ℕ) (ys : List ℕ) (x k : ℕ) → k < length (y ∷ ys) → get_or (y ∷ ys) k x ≡ x → (y ≡ x) ⊎ Contains ys x
in-by y ys x zero within e = inl e
in-by y ys x (suc k) within e = inr (k, omega (arith, within), e)

none-in : (x : ℕ) → Contains [] x → ⊥
none-in x has = absurd (omega (arith, has.1))

-- an item that stands first stands nowhere else
once-in : (x : ℕ) (xs : List ℕ) → IsDistinct nat_eq (x ∷ xs) → Contains xs x → ⊥
once-in x xs once has =
    let apart : nat_eq x (get_or xs has.0 x) ≡ false = apart_from_distinct nat_eq (x ∷ xs) 0 (suc has.0) x once (omega arith) (omega (arith, has.1)) in
    true≢false (sym (nat_eq_equiv.refl x) ∙ subst (λ z. nat_eq x z ≡ false) has.2 apart)

module _ (lt : ℕ → ℕ → Bool) (ranks : IsStrictWeakOrder lt) (P : ℕ → Type 0) (ties : (a b : ℕ) → P a → P b → lt a b ≡ false → lt b a ≡ false → a ≡ b) where
  -- the first is behind none
  least : (x : ℕ) (xs : List ℕ) (z : ℕ) → IsSortedBy lt (x ∷ xs) → Contains (x ∷ xs) z → lt z x ≡ false
  least x xs z up has = subst (λ y. lt y x ≡ false) has.2 (sorted_far lt ranks (x ∷ xs) up 0 has.0 z (omega arith) has.1)

  tail-up : (x : ℕ) (xs : List ℕ) → IsSortedBy lt (x ∷ xs) → IsSortedBy lt xs
  tail-up x xs up k d low high =
      let next : suc k + 1 ≡ suc (k + 1) = omega arith in
      subst (λ n. lt (get_or (x ∷ xs) n d) (get_or xs k d) ≡ false) next (up (suc k) d (omega arith) (omega (arith, high)))

  -- what stands behind two firsts that are the same
  rest-in : (x y : ℕ) (xs ys : List ℕ) → x ≡ y → IsDistinct nat_eq (x ∷ xs) → ((z : ℕ) → Contains (x ∷ xs) z → Contains (y ∷ ys) z) → (z : ℕ) → Contains xs z → Contains ys z
  rest-in x y xs ys same once into z has =
      let there = into z (later-in x xs z has) in
      elim (in-by y ys z there.0 there.1 there.2) [
        | inl first ↦ absurd (once-in x xs once (subst (Contains xs) (sym (same ∙ first)) has))
        | inr later ↦ later
      ]

  pub same-list : (xs ys : List ℕ) → All P xs → All P ys → IsSortedBy lt xs → IsSortedBy lt ys → IsDistinct nat_eq xs → IsDistinct nat_eq ys → HasSame xs ys → xs ≡ ys
  same-list [] [] p q up vp once twice has = refl
  same-list [] (y ∷ ys) p q up vp once twice has = absurd (none-in y (has.back y (first-in y ys)))
  same-list (x ∷ xs) [] p q up vp once twice has = absurd (none-in x (has.into x (first-in x xs)))
  same-list (x ∷ xs) (y ∷ ys) p q up vp once twice has =
      let first : x ≡ y = ties x y (All-head P x xs p) (All-head P y ys q) (least y ys x vp (has.into x (first-in x xs))) (least x xs y up (has.back y (first-in y ys))) in
      let rest : HasSame xs ys = record {
        into = rest-in x y xs ys first once has.into;
        back = rest-in y x ys xs (sym first) twice has.back;
      } in
      let behind = same-list xs ys (All-tail P x xs p) (All-tail P y ys q) (tail-up x xs up) (tail-up y ys vp) (IsDistinct-tail nat_eq x xs once) (IsDistinct-tail nat_eq y ys twice) rest in
      λ i. first i ∷ behind i
