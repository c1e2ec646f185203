-- Types by rank and number: all of them in order, and in one only.
use Rattle.std.proofs.Common.{◌≡◌, ◌≢◌, ◌==◌, ℕ, ◌+◌, ◌*◌, ◌^◌, ◌<◌, ◌≤◌, inl, inr, Bool, true, false, List, [], ◌∷◌, ◌++◌, length, get_or, slice_index, refl, sym, ap, ◌∙◌, subst, arith}
use Rattle.std.specs.Prelude.{All, Contains}
use Rattle.std.specs.List.{AllPairs}
use Rattle.std.specs.List.Sorted.{IsPermutation, IsNonDecreasingBy}
use Rattle.std.proofs.lemmas.Bool.{cases_eq, cases_lt}
use Rattle.std.proofs.lemmas.Bool.Decides.{Decides-eqb}
use Rattle.std.proofs.lemmas.List.{get_or_default, length_push, get_or_append_left, get_or_push}
use Rattle.std.proofs.lemmas.List.Elements.{All-get_or, All-from_get_or, Contains-get_or}
use Rattle.std.proofs.lemmas.List.Sorted.{All-permutation, Contains-permutation}
use Rattle.std.proofs.lemmas.Map.Keys.{IsDistinct-IsPermutation}
use Rattle.std.proofs.lemmas.Map.Made.{AllPairs-from_IsDistinct, IsDistinct-from_AllPairs}
use Rattle.component_references.specs.Order.{IsOrder}
use Rattle.type_derivation.specs.Filled.{IsBefore, IsTypeOrder}
use Rattle.type_derivation.specs.inside.Filling.{AreCounted}

same-truth : (a b : Bool) → (a ≡ true → b ≡ true) → (b ≡ true → a ≡ true) → a ≡ b
same-truth true b to from = sym (to refl)
same-truth false true to from = from refl
same-truth false false to from = refl

flips : (x y : ℕ) → (x == y) ≡ (y == x)
flips x y = same-truth (x == y) (y == x) (λ e. (Decides-eqb y x).1 (sym ((Decides-eqb x y).0 e))) (λ e. (Decides-eqb x y).1 (sym ((Decides-eqb y x).0 e)))

module _ (ranks numbers order : List ℕ) (count : ℕ) (few : count < 2 ^ 32) (is : AreCounted count numbers) (moved : IsPermutation numbers order)
    (up : IsNonDecreasingBy (λ n. 4_294_967_296 * slice_index ranks n + n) order) where
  there : All (λ n. n < count) order
  there = All-permutation (λ n. n < count) numbers order moved (All-from_get_or (λ n. n < count) numbers 0 (λ i l. let a = is.each i l in omega (arith, a, l, is.len)))

  each : (n : ℕ) → n < count → Contains order n
  each n l =
      let m : n < length numbers = omega (arith, l, is.len) in
      Contains-permutation numbers order n moved (subst (Contains numbers) (is.each n m) (Contains-get_or numbers n 0 m))

  apart-first : AllPairs (λ x y. x ≢ y) numbers
  apart-first i j d below within e =
      let a = get_or_default numbers i d 0 (omega (arith, below, within)) ∙ is.each i (omega (arith, below, within)) in
      let b = get_or_default numbers j d 0 within ∙ is.each j within in
      omega (arith, a, b, e, below)

  apart : AllPairs (λ x y. x ≢ y) order
  apart = AllPairs-from_IsDistinct Decides-eqb order (IsDistinct-IsPermutation (λ x y. x == y) flips numbers order moved (IsDistinct-from_AllPairs Decides-eqb numbers apart-first))

  before : (a b : ℕ) → a < count → b < count → a ≢ b → 4_294_967_296 * slice_index ranks a + a ≤ 4_294_967_296 * slice_index ranks b + b → IsBefore ranks a b
  before a b la lb differ le = elim (cases_lt (slice_index ranks a) (slice_index ranks b)) [
    | inl less ↦ inl less
    | inr not ↦ (let same : slice_index ranks a ≡ slice_index ranks b = omega (arith, not, le, la, lb, few) in
        elim (cases_lt a b) [ inl l ↦ inr (same, l) | inr n ↦ (let e : a ≡ b = omega (arith, n, same, le) in absurd (differ e)) ])
  ]

  pub in-order : IsTypeOrder count ranks order
  in-order = record {
    there = there;
    each = each;
    rises = λ j k low within. before (get_or order j 0) (get_or order k 0) (All-get_or (λ n. n < count) order j 0 (omega (arith, low, within)) there)
        (All-get_or (λ n. n < count) order k 0 within there) (apart j k 0 low within) (up j k 0 (omega (arith, low)) within);
  }

-- a number more
pub counted-more : (n : ℕ) (xs : List ℕ) → AreCounted n xs → AreCounted (n + 1) (xs ++ n ∷ [])
counted-more n xs is = record {
  len = length_push xs n ∙ ap (λ k. k + 1) is.len;
  each = λ k within. elim (cases_lt k (length xs)) [
    | inl low ↦ get_or_append_left xs (n ∷ []) 0 k low ∙ is.each k low
    | inr high ↦ (let e : k ≡ length xs = omega (arith, high, within, length_push xs n) in get_or_push xs n 0 k (sym e) ∙ (sym is.len ∙ sym e))
  ];
}

pub never-both : (ranks : List ℕ) (m n : ℕ) → IsBefore ranks m n → IsBefore ranks n m → ⊥
never-both ranks m n (inl a) (inl b) = omega (arith, a, b)
never-both ranks m n (inl a) (inr b) = omega (arith, a, b.0)
never-both ranks m n (inr a) (inl b) = omega (arith, a.0, b)
never-both ranks m n (inr a) (inr b) = omega (arith, a.1, b.1)

-- an order by ranks
pub by-rank : (count : ℕ) (ranks order : List ℕ) → IsTypeOrder count ranks order → IsOrder count ranks order
by-rank count ranks order is = record { there = is.there; each = is.each; rises = rises }
  where
    not-above : (m n : ℕ) → IsBefore ranks m n → slice_index ranks m ≤ slice_index ranks n
    not-above m n (inl l) = omega (arith, l)
    not-above m n (inr e) = omega (arith, e.0)

    rises : IsNonDecreasingBy (slice_index ranks) order
    rises i j d low within = elim (cases_eq i j) [
      | inl same ↦ subst (λ k. slice_index ranks (get_or order i d) ≤ slice_index ranks (get_or order k d)) same (omega arith)
      | inr other ↦
          (let a : get_or order i 0 ≡ get_or order i d = get_or_default order i 0 d (omega (arith, low, within)) in
          let b : get_or order j 0 ≡ get_or order j d = get_or_default order j 0 d within in
          subst (λ x. slice_index ranks x ≤ slice_index ranks (get_or order j d)) a (subst (λ y. slice_index ranks (get_or order i 0) ≤ slice_index ranks y) b
          (not-above (get_or order i 0) (get_or order j 0) (is.rises i j (omega (arith, low, other)) within))))
    ]
