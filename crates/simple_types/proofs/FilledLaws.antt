-- A table filled in the order of ranks, each entry by those of lower rank.
use Rattle.std.proofs.Common.{◌≡◌, ◌≢◌, ℕ, ◌+◌, ◌<◌, ◌≤◌, inl, inr, List, [], ◌∷◌, zero, suc, Option, Some, None, length, take, set, get_or, slice_get, slice_index, refl, sym, ap, ◌∙◌, subst, arith, length-set, take_all}
use Rattle.std.specs.Prelude.{All}
use Rattle.std.proofs.lemmas.Bool.{cases_eq, cases_lt}
use Rattle.std.proofs.lemmas.Option.{slice_get-get_or}
use Rattle.std.proofs.lemmas.List.{get_or_default, get_or-take, get_or-set_same, length-take-le}
use Rattle.std.proofs.lemmas.List.Elements.{All-more, All-get_or, All-from_get_or, All-contains}
use Rattle.component_references.specs.Order.{IsOrder}
use Rattle.simple_types.specs.Judging.{Holds}

slice_get-set_same : {V : Type 0} (table : List V) (x : ℕ) (v : V) → x < length table → slice_get (set table x v) x ≡ Some v
slice_get-set_same table x v within =
    let in' : x < length (set table x v) = rw length-set within in
    slice_get-get_or (set table x v) x v in' ∙ ap Some (get_or-set_same table x v v within)

slice_get-set_other : {V : Type 0} (table : List V) (x y : ℕ) (v : V) → y ≢ x → slice_get (set table x v) y ≡ slice_get table y
slice_get-set_other [] x y v other = refl
slice_get-set_other (a ∷ as') zero zero v other = absurd (other refl)
slice_get-set_other (a ∷ as') zero (suc y) v other = refl
slice_get-set_other (a ∷ as') (suc x) zero v other = refl
slice_get-set_other (a ∷ as') (suc x) (suc y) v other = slice_get-set_other as' x y v (λ e. other (ap suc e))

-- an entry that is read where another was written
pub read_past : {V : Type 0} (table : List V) (x y : ℕ) (v : V) → y ≢ x → slice_get (set table x v) y ≡ slice_get table y
read_past table x y v other = slice_get-set_other table x y v other

module _ {V : Type 0} (P : List V → ℕ → V → Type 0) (ranks : List ℕ) where
  -- the entry of a part is as it is to be
  abbrev pub IsIn : List V → ℕ → Type 0
  IsIn table y = Holds (P table y) (slice_get table y)

  -- what stands before a part in the order is all that is of lower rank
  pub entries-below : (count : ℕ) (order : List ℕ) (i : ℕ) (table : List V) → IsOrder count ranks order → i < length order → All (IsIn table) (take i order)
      → (y : ℕ) → y < count → slice_index ranks y < slice_index ranks (get_or order i 0) → IsIn table y
  entries-below count order i table o within known y there lower =
      let c = o.each y there in
      let at : get_or order c.0 0 ≡ y = get_or_default order c.0 0 y c.1 ∙ c.2 in
      elim (cases_lt c.0 i) [
        | inl before ↦ (let short : c.0 < length (take i order) = rw (length-take-le i order (omega arith)) before in
            subst (IsIn table) (get_or-take i order c.0 0 before ∙ at) (All-get_or (IsIn table) (take i order) c.0 0 short known))
        | inr behind ↦ (let rises : slice_index ranks (get_or order i 0) ≤ slice_index ranks (get_or order c.0 0) = o.rises i c.0 0 behind c.1 in
            let same : slice_index ranks (get_or order c.0 0) ≡ slice_index ranks y = ap (slice_index ranks) at in
            absurd (omega arith))
      ]

  -- what is true of a part that is no higher is true where another is written
  abbrev pub IsStable : Type 0
  IsStable = (table : List V) (x y : ℕ) (v made : V) → slice_index ranks y ≤ slice_index ranks x → P table y made → P (set table x v) y made

  -- an entry more, in its place
  pub entries-more : IsStable → (count : ℕ) (order : List ℕ) (i x : ℕ) (table : List V) (v : V) → IsOrder count ranks order → i < length order → get_or order i 0 ≡ x → x < length table → P table x v → All (IsIn table) (take i order)
      → All (IsIn (set table x v)) (take (i + 1) order)
  entries-more stable count order i x table v o within is there made known =
      All-more (IsIn (set table x v)) order i 0 within
      (All-from_get_or (IsIn (set table x v)) (take i order) 0 kept)
      (subst (IsIn (set table x v)) (sym is) new)
    where
      new : IsIn (set table x v) x
      new = subst (Holds (P (set table x v) x)) (sym (slice_get-set_same table x v there)) (stable table x x v v (omega arith) made)

      by_entry : (y : ℕ) → slice_index ranks y ≤ slice_index ranks x → (entry : Option V) → Holds (P table y) entry → Holds (P (set table x v) y) entry
      by_entry y low None h = h
      by_entry y low (Some a) h = stable table x y v a low h

      by_place : (y : ℕ) → slice_index ranks y ≤ slice_index ranks x → IsIn table y → IsIn (set table x v) y
      by_place y low k = elim (cases_eq y x) [
        | inl same ↦ subst (IsIn (set table x v)) (sym same) new
        | inr other ↦ subst (Holds (P (set table x v) y)) (sym (slice_get-set_other table x y v other)) (by_entry y low (slice_get table y) k)
      ]

      kept : (j : ℕ) → j < length (take i order) → IsIn (set table x v) (get_or (take i order) j 0)
      kept j short =
          let before : j < i = omega (arith, short, length-take-le i order (omega arith)) in
          let same : get_or (take i order) j 0 ≡ get_or order j 0 = get_or-take i order j 0 before in
          let low : slice_index ranks (get_or order j 0) ≤ slice_index ranks (get_or order i 0) = o.rises j i 0 (omega arith) within in
          by_place (get_or (take i order) j 0) (subst (λ y. slice_index ranks y ≤ slice_index ranks x) (sym same) (subst (λ z. slice_index ranks (get_or order j 0) ≤ slice_index ranks z) is low))
          (All-get_or (IsIn table) (take i order) j 0 short known)

  -- all of them
  pub entries-all : (count : ℕ) (order : List ℕ) (i : ℕ) (table : List V) → IsOrder count ranks order → length order ≤ i → All (IsIn table) (take i order) → (n : ℕ) → n < count → IsIn table n
  entries-all count order i table o end known n there =
      All-contains (IsIn table) order n (subst (All (IsIn table)) (take_all i order end) known) (o.each n there)
