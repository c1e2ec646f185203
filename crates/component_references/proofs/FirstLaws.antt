-- Heights fall along references, and there is one of each part.
use Rattle.std.proofs.Common.{◌≡◌, ◌≢◌, ℕ, zero, suc, ◌+◌, ◌-◌, ◌<◌, ◌≤◌, max, ◌⊎◌, inl, inr, List, [], ◌∷◌, ◌++◌, length, take, set, get_or, slice_index, refl, sym, ap, ◌∙◌, subst, arith, length-set}
use Rattle.std.specs.Prelude.{All, Contains}
use Rattle.std.proofs.Math.Seq.{take-suc}
use Rattle.std.proofs.lemmas.Bool.{cases_eq, cases_lt}
use Rattle.std.proofs.lemmas.List.{get_or_default, get_or-set_same, get_or-set_other, get_or-take, length-take-le, get_or_past, same_lists}
use Rattle.std.proofs.lemmas.List.Elements.{All-get_or, All-contains}
use Rattle.component_references.specs.NumberedCircles.{refs_of, Leads, directly, further, AreFalling, rank_above, AreHeights, NeverRise, IsRanking}
use Rattle.component_references.specs.inside.Orders.{IsInOrder, AreSet}

-- the least rank above some parts is above each
above-each : (ranks xs : List ℕ) (y : ℕ) → Contains xs y → slice_index ranks y < rank_above ranks xs
above-each ranks [] y c = absurd (omega (arith, c.1))
above-each ranks (x ∷ xs) y (zero, within, is) = let e : x ≡ y = is in subst (λ v. slice_index ranks v < rank_above ranks (x ∷ xs)) e (omega arith)
above-each ranks (x ∷ xs) y (suc k, within, is) = let l = above-each ranks xs y (k, omega (arith, within), is) in omega (arith, l)

-- heights fall along references
pub heights-fall : (refs : List (List ℕ)) (ranks : List ℕ) → AreHeights refs ranks → AreFalling refs ranks
heights-fall refs ranks heights x y h c = let l = above-each ranks (refs_of refs x) y c in omega (arith, l, heights x h)

-- one part more, as a loop goes
pub above-more : (ranks xs : List ℕ) (y : ℕ) → rank_above ranks (xs ++ y ∷ []) ≡ max (rank_above ranks xs) (suc (slice_index ranks y))
above-more ranks [] y = omega arith
above-more ranks (x ∷ xs) y = let e = above-more ranks xs y in omega (arith, e)

pub above-next : (ranks xs : List ℕ) (i : ℕ) → i < length xs → rank_above ranks (take (i + 1) xs) ≡ max (rank_above ranks (take i xs)) (suc (slice_index ranks (get_or xs i 0)))
above-next ranks xs i within =
    let n : i + 1 ≡ suc i = omega arith in
    ap (λ m. rank_above ranks (take m xs)) n ∙ (ap (rank_above ranks) (take-suc xs i 0 within) ∙ above-more ranks (take i xs) (get_or xs i 0))

-- it goes by the ranks of these parts alone
pub above-same : (one other xs : List ℕ) → ((y : ℕ) → Contains xs y → slice_index one y ≡ slice_index other y) → rank_above one xs ≡ rank_above other xs
above-same one other [] same = refl
above-same one other (x ∷ xs) same =
    let first : slice_index one x ≡ slice_index other x = same x (zero, omega arith, refl) in
    let rest = above-same one other xs (λ y c. same y (suc c.0, omega (arith, c.1), c.2)) in
    omega (arith, first, rest)

module _ (refs : List (List ℕ)) (order ranks : List ℕ) (is : IsInOrder refs order) (i : ℕ) (within : i < length order) (done : AreSet refs order ranks i) where
  abbrev x : ℕ
  x = get_or order i 0

  abbrev rank : ℕ
  rank = rank_above ranks (refs_of refs x)

  x-there : x < length ranks
  x-there = let l : x < length refs = All-get_or (λ y. y < length refs) order i 0 within is.there in omega (arith, l, done.len)

  -- what stands before keeps its rank, also where it is this part again
  kept-at : (k : ℕ) → k < i → get_or (set ranks x rank) (get_or order k 0) 0 ≡ get_or ranks (get_or order k 0) 0
  kept-at k low = elim (cases_eq (get_or order k 0) x) [
    | inl same ↦ ap (λ y. get_or (set ranks x rank) y 0) same ∙ (get_or-set_same ranks x rank 0 x-there ∙ (sym (subst (λ y. get_or ranks y 0 ≡ rank_above ranks (refs_of refs y)) same (done.heights k low)) ∙ ap (λ y. get_or ranks y 0) (sym same)))
    | inr other ↦ get_or-set_other ranks x (get_or order k 0) rank 0 other
  ]

  kept : (y : ℕ) → Contains (take i order) y → get_or (set ranks x rank) y 0 ≡ get_or ranks y 0
  kept y c =
      let short : c.0 < i = omega (arith, c.1, length-take-le i order (omega arith)) in
      let at : get_or order c.0 0 ≡ y = sym (get_or-take i order c.0 0 short) ∙ (get_or_default (take i order) c.0 0 y c.1 ∙ c.2) in
      subst (λ v. get_or (set ranks x rank) v 0 ≡ get_or ranks v 0) at (kept-at c.0 short)

  -- what a part up to this place refers to stands before
  before : (k : ℕ) → k ≤ i → (y : ℕ) → Contains (refs_of refs (get_or order k 0)) y → Contains (take i order) y
  before k low y c =
      let m = All-contains (Contains (take k order)) (refs_of refs (get_or order k 0)) y (is.behind k (omega arith)) c in
      let short : m.0 < k = omega (arith, m.1, length-take-le k order (omega arith)) in
      let there : get_or order m.0 y ≡ y = sym (get_or-take k order m.0 y short) ∙ m.2 in
      (m.0, omega (arith, length-take-le i order (omega arith)), get_or-take i order m.0 y (omega arith) ∙ there)

  above-kept : (k : ℕ) → k ≤ i → rank_above ranks (refs_of refs (get_or order k 0)) ≡ rank_above (set ranks x rank) (refs_of refs (get_or order k 0))
  above-kept k low = above-same ranks (set ranks x rank) (refs_of refs (get_or order k 0)) (λ y c. sym (kept y (before k low y c)))

  -- one part more has its height
  pub set-more : (n : ℕ) → n ≤ suc i → AreSet refs order (set ranks x rank) n
  set-more n most = record {
    len = length-set ranks x rank ∙ done.len;
    heights = λ k low. elim (cases_lt k i) [
      | inl less ↦ kept-at k less ∙ (done.heights k less ∙ above-kept k (omega arith))
      | inr not ↦ (let e : k ≡ i = omega (arith, low, not, most) in
          subst (λ m. get_or (set ranks x rank) (get_or order m 0) 0 ≡ rank_above (set ranks x rank) (refs_of refs (get_or order m 0))) (sym e)
          (get_or-set_same ranks x rank 0 x-there ∙ above-kept i (omega arith)))
    ];
  }

pub set-all : (refs : List (List ℕ)) (order ranks : List ℕ) → IsInOrder refs order → (i : ℕ) → length order ≤ i → AreSet refs order ranks i → AreHeights refs ranks
set-all refs order ranks is i all done x h =
    let at = is.each x h in
    let read : get_or order at.0 0 ≡ x = get_or_default order at.0 0 x at.1 ∙ at.2 in
    subst (λ v. get_or ranks v 0 ≡ rank_above ranks (refs_of refs v)) read (done.heights at.0 (omega (arith, at.1, all)))

module _ (refs : List (List ℕ)) where
  -- a part refers to something only if it is there
  there-of : (x y : ℕ) → Contains (refs_of refs x) y → x < length refs
  there-of x y c = elim (cases_lt x (length refs)) [ inl low ↦ low | inr high ↦ (let none : refs_of refs x ≡ [] = get_or_past refs x [] (omega arith) in absurd (omega (arith, c.1, ap length none))) ]

  -- what leads somewhere is there
  pub leads-there : (x y : ℕ) → Leads refs x y → x < length refs
  leads-there _ _ (directly x y c) = there-of x y c
  leads-there _ _ (further x y z l c) = leads-there x y l

  -- ranks fall along what leads
  leads-fall : (ranks : List ℕ) → AreFalling refs ranks → (x y : ℕ) → Leads refs x y → get_or ranks y 0 < get_or ranks x 0
  leads-fall ranks fall _ _ (directly x y c) = fall x y (there-of x y c) c
  leads-fall ranks fall _ _ (further x y z l c) = let a = leads-fall ranks fall x y l in let b = fall y z (there-of y z c) c in omega (arith, a, b)

  pub ranking : (ranks : List ℕ) → length ranks ≡ length refs → AreHeights refs ranks → IsRanking refs ranks
  ranking ranks len heights = let fall = heights-fall refs ranks heights in record { len = len; heights = heights; fall = fall; none = λ x l. let a = leads-fall ranks fall x x l in omega (arith, a) }

  -- what is above all that it refers to does not come back
  pub below-all : (levels : List ℕ) → NeverRise refs levels → (x : ℕ) → All (λ y. get_or levels y 0 < get_or levels x 0) (refs_of refs x) → (y : ℕ) → Leads refs x y → get_or levels y 0 < get_or levels x 0
  below-all levels never x all _ (directly _ y c) = All-contains (λ z. get_or levels z 0 < get_or levels x 0) (refs_of refs x) y all c
  below-all levels never x all _ (further _ y z l c) =
      let a = below-all levels never x all y l in
      let b = All-contains (λ z. get_or levels z 0 ≤ get_or levels y 0) (refs_of refs y) z (never y) c in
      omega (arith, a, b)

  -- a part that is not there has rank 0
  past : (ranks : List ℕ) → length ranks ≡ length refs → (x : ℕ) → length refs ≤ x → slice_index ranks x ≡ 0
  past ranks len x high = get_or_past ranks x 0 (omega (arith, len, high))

  module _ (one other : List ℕ) (a : IsRanking refs one) (b : IsRanking refs other) where
    same-below : (n x : ℕ) → slice_index one x < n → slice_index one x ≡ slice_index other x
    same-below zero x low = absurd (omega (arith, low))
    same-below (suc n) x low = elim (cases_lt x (length refs)) [
      | inl there ↦
          (let all = above-same one other (refs_of refs x) (λ y c. let l = a.fall x y there c in same-below n y (omega (arith, l, low))) in
          a.heights x there ∙ (all ∙ sym (b.heights x there)))
      | inr not ↦ past one a.len x (omega (arith, not)) ∙ sym (past other b.len x (omega (arith, not)))
    ]

    -- there is one ranking
    pub rankings-same : one ≡ other
    rankings-same = same_lists one other (a.len ∙ sym b.len) (λ k d l. get_or_default one k d 0 l ∙ (same-below (suc (slice_index one k)) k (omega arith) ∙ sym (get_or_default other k d 0 (omega (arith, l, a.len, b.len)))))
