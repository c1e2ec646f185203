-- A list that is filled in the order of ranks, by what is true of each item.
use Rattle.std.proofs.Common.{◌≡◌, ◌≢◌, ℕ, ◌+◌, ◌<◌, ◌≤◌, zero, suc, inl, inr, List, [], ◌∷◌, Option, Some, length, take, set, get_or, slice_get, slice_index, refl, sym, ap, ◌∙◌, subst, arith, length-set}
use Rattle.std.specs.Prelude.{All}
use Rattle.std.proofs.lemmas.Bool.{cases_eq, cases_lt}
use Rattle.std.proofs.lemmas.Option.{slice_get-get_or}
use Rattle.std.proofs.lemmas.List.{get_or_default, get_or-take, get_or-set_same, length-take-le, take_all}
use Rattle.std.proofs.lemmas.List.Elements.{All-more, All-weaker, All-get_or, All-contains}
use Rattle.component_references.specs.Order.{IsOrder}

set-same : {V : Type 0} (table : List V) (x : ℕ) (v : V) → x < length table → slice_get (set table x v) x ≡ Some v
set-same table x v within =
    let in' : x < length (set table x v) = rw length-set within in
    slice_get-get_or (set table x v) x v in' ∙ ap Some (get_or-set_same table x v v within)

set-other : {V : Type 0} (table : List V) (x y : ℕ) (v : V) → y ≢ x → slice_get (set table x v) y ≡ slice_get table y
set-other [] x y v other = refl
set-other (a ∷ as') zero zero v other = absurd (other refl)
set-other (a ∷ as') zero (suc y) v other = refl
set-other (a ∷ as') (suc x) zero v other = refl
set-other (a ∷ as') (suc x) (suc y) v other = set-other as' x y v (λ e. other (ap suc e))

module _ {V : Type 0} (Q : Option V → ℕ → Type 0) where
  abbrev pub IsIn : List V → ℕ → Type 0
  IsIn table y = Q (slice_get table y) y

  -- what stands before a part in the order is all that is of lower rank
  pub items-below : (count : ℕ) (ranks order : List ℕ) (i : ℕ) (table : List V) → IsOrder count ranks order → i < length order → All (IsIn table) (take i order) →
      (y : ℕ) → y < count → slice_index ranks y < slice_index ranks (get_or order i 0) → IsIn table y
  items-below count ranks order i table o within known y there lower =
      let c = o.each y there in
      let at : get_or order c.0 0 ≡ y = get_or_default order c.0 0 y c.1 ∙ c.2 in
      elim (cases_lt c.0 i) [
        | inl before ↦ (let short : c.0 < length (take i order) = rw (length-take-le i order (omega arith)) before in
            subst (IsIn table) (get_or-take i order c.0 0 before ∙ at) (All-get_or (IsIn table) (take i order) c.0 0 short known))
        | inr behind ↦ (let rises : slice_index ranks (get_or order i 0) ≤ slice_index ranks (get_or order c.0 0) = o.rises i c.0 0 behind c.1 in
            let same : slice_index ranks (get_or order c.0 0) ≡ slice_index ranks y = ap (slice_index ranks) at in
            absurd (omega arith))
      ]

  -- one item more, in its place
  pub items-more : (order : List ℕ) (i x : ℕ) (table : List V) (v : V) → i < length order → get_or order i 0 ≡ x → x < length table → Q (Some v) x → All (IsIn table) (take i order) → All (IsIn (set table x v)) (take (i + 1) order)
  items-more order i x table v within is there made known =
      All-more (IsIn (set table x v)) order i 0 within
      (All-weaker (IsIn table) (IsIn (set table x v)) kept (take i order) known)
      (subst (IsIn (set table x v)) (sym is) here)
    where
      here : IsIn (set table x v) x
      here = subst (λ o. Q o x) (sym (set-same table x v there)) made

      kept : (y : ℕ) → IsIn table y → IsIn (set table x v) y
      kept y k = elim (cases_eq y x) [
        | inl same ↦ subst (IsIn (set table x v)) (sym same) here
        | inr other ↦ subst (λ o. Q o y) (sym (set-other table x y v other)) k
      ]

  pub items-all : (count : ℕ) (ranks order : List ℕ) (i : ℕ) (table : List V) → IsOrder count ranks order → length order ≤ i → All (IsIn table) (take i order) → (y : ℕ) → y < count → IsIn table y
  items-all count ranks order i table o end known y there =
      All-contains (IsIn table) order y (subst (All (IsIn table)) (take_all i order end) known) (o.each y there)
