-- A list by rank, and a table filled along it.
use Rattle.std.proofs.Common.{◌≡◌, ◌≢◌, ℕ, ◌+◌, ◌<◌, ◌≤◌, inl, inr, List, [], ◌∷◌, zero, suc, Some, length, ◌++◌, take, set, get_or, slice_get, slice_index, refl, sym, ap, ◌∙◌, subst, arith, length-set}
use Rattle.std.specs.Prelude.{All, Contains}
use Rattle.std.proofs.lemmas.Bool.{cases_eq, cases_lt}
use Rattle.std.proofs.lemmas.Option.{slice_get-get_or}
use Rattle.std.proofs.lemmas.List.{get_or_default, get_or-take, get_or-set_same, length-take-le}
use Rattle.std.proofs.lemmas.List.Elements.{All-more, All-weaker, All-get_or, All-push, Contains-push, Contains-append_left}
use Rattle.std.specs.List.Sorted.{IsPermutation, IsNonDecreasingBy}
use Rattle.std.proofs.lemmas.List.Sorted.{All-permutation, Contains-permutation}
use Rattle.component_references.specs.Order.{AreNumbers, IsOrder, IsFilledBelow}

slice_get-set_same : {V : Type 0} (table : List V) (x : ℕ) (v : V) → x < length table → slice_get (set table x v) x ≡ Some v
slice_get-set_same table x v within =
    let in' : x < length (set table x v) = rw length-set within in
    slice_get-get_or (set table x v) x v in' ∙ ap Some (get_or-set_same table x v v within)

slice_get-set_other : {V : Type 0} (table : List V) (x y : ℕ) (v : V) → y ≢ x → slice_get (set table x v) y ≡ slice_get table y
slice_get-set_other [] x y v other = refl
slice_get-set_other (a ∷ as') zero zero v other = absurd (other refl)
slice_get-set_other (a ∷ as') zero (suc y) v other = refl
slice_get-set_other (a ∷ as') (suc x) zero v other = refl
slice_get-set_other (a ∷ as') (suc x) (suc y) v other = slice_get-set_other as' x y v (λ e. other (ap suc e))

module _ {V : Type 0} (value : ℕ → V) where
  -- the table has the value of a part
  abbrev pub IsIn : List V → ℕ → Type 0
  IsIn table y = slice_get table y ≡ Some (value y)

  -- what stands before a part in the order is all that is of lower rank
  pub filled-below : (count : ℕ) (ranks order : List ℕ) (i : ℕ) (table : List V) → IsOrder count ranks order → i < length order → All (IsIn table) (take i order) → IsFilledBelow count ranks value (slice_index ranks (get_or order i 0)) table
  filled-below count ranks order i table o within known y there lower =
      let c = o.each y there in
      let at : get_or order c.0 0 ≡ y = get_or_default order c.0 0 y c.1 ∙ c.2 in
      elim (cases_lt c.0 i) [
        | inl before ↦ (let short : c.0 < length (take i order) = rw (length-take-le i order (omega arith)) before in
            subst (IsIn table) (get_or-take i order c.0 0 before ∙ at) (All-get_or (IsIn table) (take i order) c.0 0 short known))
        | inr behind ↦ (let rises : slice_index ranks (get_or order i 0) ≤ slice_index ranks (get_or order c.0 0) = o.rises i c.0 0 behind c.1 in
            let same : slice_index ranks (get_or order c.0 0) ≡ slice_index ranks y = ap (slice_index ranks) at in
            absurd (omega arith))
      ]

  -- a value more, in its place
  pub filled-more : (order : List ℕ) (i x : ℕ) (table : List V) → i < length order → get_or order i 0 ≡ x → x < length table → All (IsIn table) (take i order) → All (IsIn (set table x (value x))) (take (i + 1) order)
  filled-more order i x table within is there known =
      All-more (IsIn (set table x (value x))) order i 0 within
      (All-weaker (IsIn table) (IsIn (set table x (value x))) kept (take i order) known)
      (subst (IsIn (set table x (value x))) (sym is) (slice_get-set_same table x (value x) there))
    where
      kept : (y : ℕ) → IsIn table y → IsIn (set table x (value x)) y
      kept y k = elim (cases_eq y x) [
        | inl same ↦ subst (IsIn (set table x (value x))) (sym same) (slice_get-set_same table x (value x) there)
        | inr other ↦ slice_get-set_other table x y (value x) other ∙ k
      ]

-- the numbers below the next count
pub numbers-more : (n : ℕ) (xs : List ℕ) → AreNumbers n xs → AreNumbers (n + 1) (xs ++ n ∷ [])
numbers-more n xs are = record {
  there = All-push (λ x. x < n + 1) xs n (All-weaker (λ x. x < n) (λ x. x < n + 1) (λ x h. omega arith) xs are.there) (omega arith);
  each = λ x h. elim (cases_eq x n) [ inl same ↦ subst (Contains (xs ++ n ∷ [])) (sym same) (Contains-push xs n) | inr other ↦ Contains-append_left xs (n ∷ []) x (are.each x (omega arith)) ];
}

-- numbers in another order, by rank
pub order-sorted : (ranks all order : List ℕ) (n : ℕ) → AreNumbers n all → IsPermutation all order → IsNonDecreasingBy (slice_index ranks) order → IsOrder n ranks order
order-sorted ranks all order n are moved rises = record {
  there = All-permutation (λ x. x < n) all order moved are.there;
  each = λ x h. Contains-permutation all order x moved (are.each x h);
  rises = rises;
}
