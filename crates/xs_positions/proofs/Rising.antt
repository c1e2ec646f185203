-- Rising lists, and what is in a list.
use Rattle.std.proofs.Common.{◌≡◌, ℕ, zero, suc, ◌+◌, ◌-◌, ◌<◌, ◌≤◌, ◌⊎◌, ◌↔◌, List, [], ◌∷◌, ◌++◌, length, get_or, Contains, sym, refl, ◌∙◌, inl, inr, arith, length-append}
use Rattle.std.specs.List.Sorted.{IsStrictlyIncreasing}
use Rattle.std.proofs.lemmas.Bool.{cases_lt}
use Rattle.std.proofs.lemmas.List.{get_or_append_left, get_or-append_right, get_or_default}
use Rattle.std.proofs.lemmas.List.Elements.{Contains-get_or, Contains-append_left, Contains-append_right, Contains-append_cases}
use Rattle.std.proofs.lemmas.List.Kept.{AllPairs-from_increasing}

pub rises-nil : IsStrictlyIncreasing []
rises-nil k h = absurd (omega arith)

pub rises-one : (p : ℕ) → IsStrictlyIncreasing (p ∷ [])
rises-one p k h = absurd (omega arith)

-- one list and then another whose numbers are not below a number above those of the first
pub rises-append : (xs ys : List ℕ) (m : ℕ) → IsStrictlyIncreasing xs → IsStrictlyIncreasing ys →
    ((p : ℕ) → Contains xs p → p < m) → ((p : ℕ) → Contains ys p → m ≤ p) → IsStrictlyIncreasing (xs ++ ys)
rises-append xs ys m rx ry below above k h =
    let n : k + 1 < length xs + length ys = omega (arith, length-append xs ys) in
    elim (cases_lt (k + 1) (length xs)) [
      | inl l ↦ rw (get_or_append_left xs ys 0 k (omega arith), get_or_append_left xs ys 0 (k + 1) l) (rx k l)
      | inr g ↦ elim (cases_lt k (length xs)) [
        | inl l ↦
            let e : k + 1 - length xs ≡ 0 = omega arith in
            rw (get_or_append_left xs ys 0 k l, get_or-append_right xs ys (length xs) (k + 1) 0 refl g, e)
            (let a : get_or xs k 0 < m = below (get_or xs k 0) (Contains-get_or xs k 0 l) in
            let b : m ≤ get_or ys 0 0 = above (get_or ys 0 0) (Contains-get_or ys 0 0 (omega arith)) in
            omega arith)
        | inr l ↦
            let e : k + 1 - length xs ≡ (k - length xs) + 1 = omega arith in
            rw (get_or-append_right xs ys (length xs) k 0 refl l, get_or-append_right xs ys (length xs) (k + 1) 0 refl g, e)
            (ry (k - length xs) (omega arith))
      ]
    ]

-- no number is above the last one
pub at_most_last : (xs : List ℕ) (p : ℕ) → IsStrictlyIncreasing xs → Contains xs p → p ≤ get_or xs (length xs - 1) 0
at_most_last xs p rx h =
    let e : get_or xs h.0 0 ≡ p = get_or_default xs h.0 0 p h.1 ∙ h.2 in
    elim (cases_lt h.0 (length xs - 1)) [
      | inl l ↦ let a = AllPairs-from_increasing xs rx h.0 (length xs - 1) 0 l (omega arith) in omega arith
      | inr g ↦ let i : h.0 ≡ length xs - 1 = (let b : h.0 < length xs = h.1 in omega arith) in rw (← i) (rw e (omega arith))
    ]

-- no number is below the first one
pub at_least_first : (xs : List ℕ) (p : ℕ) → IsStrictlyIncreasing xs → Contains xs p → get_or xs 0 0 ≤ p
at_least_first xs p rx h =
    let e : get_or xs h.0 0 ≡ p = get_or_default xs h.0 0 p h.1 ∙ h.2 in
    elim (cases_lt 0 h.0) [
      | inl l ↦ let a = AllPairs-from_increasing xs rx 0 h.0 0 l h.1 in omega arith
      | inr g ↦ let i : h.0 ≡ 0 = omega arith in rw (← e, i) (omega arith)
    ]

pub rises-behind : (xs ys : List ℕ) → IsStrictlyIncreasing xs → IsStrictlyIncreasing ys →
    get_or xs (length xs - 1) 0 < get_or ys 0 0 → IsStrictlyIncreasing (xs ++ ys)
rises-behind xs ys rx ry l =
    rises-append xs ys (get_or ys 0 0) rx ry
    (λ p h. let a = at_most_last xs p rx h in omega arith) (λ p h. at_least_first ys p ry h)

pub Contains-none : (p : ℕ) → Contains [] p → ⊥
Contains-none p h = let a : h.0 < 0 = h.1 in omega arith

pub Contains-one : (p q : ℕ) → Contains (p ∷ []) q ↔ (q ≡ p)
Contains-one p q = (one_is q, λ e. (0, omega arith, sym e))
  where
    one_is : (q : ℕ) → Contains (p ∷ []) q → q ≡ p
    one_is q (zero, l, e) = sym e
    one_is q (suc k, l, e) = absurd (omega arith)

pub Contains-both : (xs ys : List ℕ) (p : ℕ) → Contains (xs ++ ys) p ↔ (Contains xs p ⊎ Contains ys p)
Contains-both xs ys p = (Contains-append_cases xs ys p, elim [ inl h ↦ Contains-append_left xs ys p h | inr h ↦ Contains-append_right xs ys p h ])
