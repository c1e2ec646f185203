-- One more row that is brought in order.
use Rattle.std.proofs.Common.{◌≡◌, ℕ, ◌+◌, ◌<◌, ◌≤◌, ◌↔◌, List, [], length, get_or, set, Contains, Vec, Global, sym, ap, ◌∙◌, inl, inr, arith, get_or-set_same, get_or-set_other}
use Rattle.std.specs.List.Sorted.{IsStrictlyIncreasing}
use Rattle.std.proofs.lemmas.Bool.{cases_eq, cases_lt}
use Rattle.std.proofs.lemmas.List.{length-map, map-set, get_or_past}
use Rattle.xs_positions.specs.Sets.{row, AreSorted}
use Rattle.xs_positions.proofs.Linking.{lists}
use Rattle.xs_positions.proofs.Measuring.{get_or-map}
use Rattle.xs_positions.proofs.Rising.{rises-nil}

module _ (rows : List (Vec ℕ Global)) (i : ℕ) (was new : Vec ℕ Global) (l : i < length rows) (is : was ≡ get_or rows i was) where
  here : row (lists (set rows i new)) i ≡ new.items
  here =
      let e = length-map rows (λ (v : Vec ℕ Global). v.items) in
      let b : i < length (lists rows) = omega arith in
      rw (map-set (λ (v : Vec ℕ Global). v.items) rows i new) (get_or-set_same (lists rows) i new.items [] b)

  there : (k : ℕ) → (k ≡ i → ⊥) → row (lists (set rows i new)) k ≡ row (lists rows) k
  there k n = rw (map-set (λ (v : Vec ℕ Global). v.items) rows i new) (get_or-set_other (lists rows) i k new.items [] n)

  old_here : row (lists rows) i ≡ was.items
  old_here = get_or-map (λ (v : Vec ℕ Global). v.items) rows i was [] l ∙ ap (λ (v : Vec ℕ Global). v.items) (sym is)

  pub members_more : (old : List (List ℕ)) (count : ℕ) → ((p : ℕ) → Contains new.items p ↔ Contains was.items p) →
      ((k p : ℕ) → k < count → Contains (row (lists rows) k) p ↔ Contains (row old k) p) →
      (k p : ℕ) → k < count → Contains (row (lists (set rows i new)) k) p ↔ Contains (row old k) p
  members_more old count same before k p b = elim (cases_eq k i) [
    | inl e ↦ (let m = rw old_here at (rw e at (before k p b)) in rw (e, here) ((λ h. m.0 ((same p).0 h)), (λ h. (same p).1 (m.1 h))))
    | inr n ↦ rw (there k n) (before k p b)
  ]

  pub rises_more : IsStrictlyIncreasing new.items → ((k : ℕ) → k < i → IsStrictlyIncreasing (row (lists rows) k)) →
      (k : ℕ) → k < i + 1 → IsStrictlyIncreasing (row (lists (set rows i new)) k)
  rises_more r before k b = elim (cases_eq k i) [
    | inl e ↦ rw (e, here) r
    | inr n ↦ rw (there k n) (before k (omega arith))
  ]

pub all_sorted : (old rows : List (Vec ℕ Global)) (n : ℕ) → length rows ≡ length old → length rows ≤ n →
    ((k p : ℕ) → k < length old → Contains (row (lists rows) k) p ↔ Contains (row (lists old) k) p) → ((k : ℕ) → k < n → IsStrictlyIncreasing (row (lists rows) k)) →
    AreSorted (lists old) (lists rows)
all_sorted old rows n count past members rises =
    let e = length-map old (λ (v : Vec ℕ Global). v.items) in
    let f = length-map rows (λ (v : Vec ℕ Global). v.items) in
    record {
      count = omega arith;
      members = λ i p l. members i p (omega arith);
      rises = λ i. elim (cases_lt i (length rows)) [
        | inl l ↦ rises i (omega arith)
        | inr g ↦ rw (get_or_past (lists rows) i [] (omega arith)) rises-nil
      ];
    }
