-- Siblings by the first of them.
use Rattle.std.proofs.Common.{◌≡◌, ℕ, zero, suc, ◌+◌, ◌-◌, ◌<◌, ◌≤◌, Bool, true, false, cond, length, List, [], ◌∷◌, drop, Option, None, Some, refl, sym, ap, ◌∙◌, arith}
use Rattle.std.specs.Prelude.{slice_get, filter}
use Rattle.std.proofs.lemmas.Option.{same_Some, none-some, slice_get_past}
use Rattle.identity_constraints.specs.Seen.{none, element}
use Rattle.what_is_found.specs.Identity.{seen_element}
use Rattle.tree_assess.specs.Entries.{entry_of}
use Rattle.doc_nodes.specs.Nodes.{Nodes, node, children_by, is_element_at, element_children}
use Rattle.kept_slots.specs.Slots.{at}
use Rattle.child_lists.specs.from_kept_records.KeptElement.{KeptElement}
use Rattle.child_lists.specs.from_kept_records.Slots.{KeptSlots}
use Rattle.kept_targets.specs.Seen.{first_seen, along, seen_to}

drop-here : (xs : List ℕ) (p n : ℕ) → slice_get xs p ≡ Some n → drop p xs ≡ n ∷ drop (p + 1) xs
drop-here xs p n e = by xs p e ∙ ap (λ q. n ∷ drop q xs) (let one : suc p ≡ p + 1 = omega arith in one)
  where
    by : (ys : List ℕ) (q : ℕ) → slice_get ys q ≡ Some n → drop q ys ≡ n ∷ drop (suc q) ys
    by [] q h = absurd (none-some n h)
    by (y ∷ ys) zero h = ap (λ m. m ∷ ys) (same_Some y n h)
    by (y ∷ ys) (suc q) h = by ys q h

drop-past : (xs : List ℕ) (p : ℕ) → slice_get xs p ≡ None → drop p xs ≡ []
drop-past [] zero e = refl
drop-past [] (suc p) e = refl
drop-past (x ∷ xs) zero e = absurd (none-some x (sym e))
drop-past (x ∷ xs) (suc p) e = drop-past xs p e

-- some of them are no more than all
pub fewer : (p : ℕ → Bool) (xs : List ℕ) → length (filter p xs) ≤ length xs
fewer p [] = omega arith
fewer p (x ∷ xs) = by (p x) (fewer p xs)
  where
    by : (b : Bool) → length (filter p xs) ≤ length xs → length (cond b (x ∷ filter p xs) (filter p xs)) ≤ length (x ∷ xs)
    by true less = omega (arith, less)
    by false less = omega (arith, less)

-- there is no child element at a place past all children
pub past-children : (ns : Nodes) (n place : ℕ) → length (children_by (node ns n)) ≤ place → slice_get (element_children ns n) place ≡ None
past-children ns n place past = slice_get_past (element_children ns n) place (let less = fewer (is_element_at ns) (children_by (node ns n)) in omega (arith, less, past))

module _ (ks : KeptSlots) (ns : Nodes) where
  pub none-to : (levels : ℕ) → seen_to ks ns levels [] ≡ none
  none-to zero = refl
  none-to (suc levels) = refl

  pub no-levels : (levels : ℕ) (siblings : List ℕ) → levels ≡ 0 → seen_to ks ns levels siblings ≡ none
  no-levels zero siblings e = refl
  no-levels (suc levels) siblings e = absurd (omega (arith, e))

  -- there is no first
  pub no-first : (levels : ℕ) (siblings : List ℕ) (p : ℕ) → slice_get siblings p ≡ None → seen_to ks ns levels (drop p siblings) ≡ none
  no-first levels siblings p e = ap (seen_to ks ns levels) (drop-past siblings p e) ∙ none-to levels

  -- nothing is kept of it
  pub not-kept : (levels : ℕ) (siblings : List ℕ) (p n : ℕ) → slice_get siblings p ≡ Some n → at ks n ≡ None → seen_to ks ns levels (drop p siblings) ≡ none
  not-kept levels siblings p n e free = ap (seen_to ks ns levels) (drop-here siblings p n e) ∙ by levels
    where
      by : (l : ℕ) → seen_to ks ns l (n ∷ drop (p + 1) siblings) ≡ none
      by zero = refl
      by (suc l) = ap (λ (o : Option KeptElement). first_seen o (seen_to ks ns l (element_children ns n)) (along ks (λ m. seen_to ks ns l (element_children ns m)) (drop (p + 1) siblings))) free

  -- the first, what is below it and what is behind it
  pub first-is : (levels : ℕ) (siblings : List ℕ) (p n : ℕ) (k : KeptElement) → 0 < levels → slice_get siblings p ≡ Some n → at ks n ≡ Some k →
      seen_to ks ns levels (drop p siblings) ≡ element (seen_element (entry_of k.found)) (seen_to ks ns (levels - 1) (element_children ns n)) (seen_to ks ns levels (drop (p + 1) siblings))
  first-is levels siblings p n k some e is = ap (seen_to ks ns levels) (drop-here siblings p n e) ∙ by levels some
    where
      by : (l : ℕ) → 0 < l → seen_to ks ns l (n ∷ drop (p + 1) siblings) ≡ element (seen_element (entry_of k.found)) (seen_to ks ns (l - 1) (element_children ns n)) (seen_to ks ns l (drop (p + 1) siblings))
      by zero h = absurd (omega (arith, h))
      by (suc l) h =
          let less : l ≡ suc l - 1 = omega arith in
          ap (λ (o : Option KeptElement). first_seen o (seen_to ks ns l (element_children ns n)) (along ks (λ m. seen_to ks ns l (element_children ns m)) (drop (p + 1) siblings))) is
          ∙ ap (λ q. element (seen_element (entry_of k.found)) (seen_to ks ns q (element_children ns n)) (seen_to ks ns (suc l) (drop (p + 1) siblings))) less
