-- How many slots all lists take, after one of them changed.
use Rattle.std.proofs.Common.{◌≡◌, ◌≢◌, ℕ, zero, suc, ◌+◌, List, [], ◌∷◌, length, Option, None, refl, ap, arith}
use Rattle.std.specs.Prelude.{slice_index_or, sum_by}
use Rattle.std.proofs.lemmas.List.Sums.{sum_by-cons}
use Rattle.child_trees.specs.declared.leaf.Leaf.{Leaf}
use Rattle.child_trees.specs.Lists.{Entry, Lists, get, Updates, AreEntries, list_slots, slots_used}

module _ {A : Type 0} (f : Option A → ℕ) (empty : f None ≡ 0) where
  same_sum : (xs ys : List (Option A)) → ((p : ℕ) → slice_index_or ys p None ≡ slice_index_or xs p None) → sum_by f ys ≡ sum_by f xs
  same_sum [] [] s = refl
  same_sum [] (y ∷ ys) s =
      let a = ap f (s 0) in let r = same_sum [] ys (λ p. s (suc p)) in let e = sum_by-cons f y ys in
      omega (arith, a, r, e, empty)
  same_sum (x ∷ xs) [] s =
      let a = ap f (s 0) in let r = same_sum xs [] (λ p. s (suc p)) in let e = sum_by-cons f x xs in
      omega (arith, a, r, e, empty)
  same_sum (x ∷ xs) (y ∷ ys) s =
      let a = ap f (s 0) in let r = same_sum xs ys (λ p. s (suc p)) in let d = sum_by-cons f x xs in let e = sum_by-cons f y ys in
      omega (arith, a, r, d, e)

  -- one of them differs
  pub changed_sum : (xs ys : List (Option A)) (q : ℕ) → ((p : ℕ) → p ≢ q → slice_index_or ys p None ≡ slice_index_or xs p None) → sum_by f ys + f (slice_index_or xs q None) ≡ sum_by f xs + f (slice_index_or ys q None)
  changed_sum [] [] q s = refl
  changed_sum [] (y ∷ ys) zero s =
      let r = same_sum [] ys (λ p. s (suc p) (omega arith)) in let e = sum_by-cons f y ys in
      omega (arith, r, e, empty)
  changed_sum [] (y ∷ ys) (suc q) s =
      let a = ap f (s 0 (omega arith)) in
      let r = changed_sum [] ys q (λ p n. s (suc p) (λ z. n (omega (arith, z)))) in let e = sum_by-cons f y ys in
      omega (arith, a, r, e, empty)
  changed_sum (x ∷ xs) [] zero s =
      let r = same_sum xs [] (λ p. s (suc p) (omega arith)) in let e = sum_by-cons f x xs in
      omega (arith, r, e, empty)
  changed_sum (x ∷ xs) [] (suc q) s =
      let a = ap f (s 0 (omega arith)) in
      let r = changed_sum xs [] q (λ p n. s (suc p) (λ z. n (omega (arith, z)))) in let e = sum_by-cons f x xs in
      omega (arith, a, r, e, empty)
  changed_sum (x ∷ xs) (y ∷ ys) zero s =
      let r = same_sum xs ys (λ p. s (suc p) (omega arith)) in let d = sum_by-cons f x xs in let e = sum_by-cons f y ys in
      omega (arith, r, d, e)
  changed_sum (x ∷ xs) (y ∷ ys) (suc q) s =
      let a = ap f (s 0 (omega arith)) in
      let r = changed_sum xs ys q (λ p n. s (suc p) (λ z. n (omega (arith, z)))) in let d = sum_by-cons f x xs in let e = sum_by-cons f y ys in
      omega (arith, a, r, d, e)

-- each slot that no list takes is still free: the list of a number was this, and is that
pub still_free : {Shape Map : Type 0} (old new : Lists Shape Map) (q n m spare spare' : ℕ) (was now : Option (List (Entry Map))) → Updates old new q now → get old q ≡ was → n ≡ spare + slots_used old → m + spare + list_slots was ≡ n + spare' + list_slots now → m ≡ spare' + slots_used new
still_free old new q n m spare spare' was now u e h k =
    let c = changed_sum list_slots refl old.lists new.lists q u.others in
    let a = ap list_slots e in let b = ap list_slots u.changed in
    omega (arith, c, a, b, h, k)

-- as many entries as leaves
pub entries_many : {Letter Map : Type 0} (unit : Map) (leaf : Letter → Map) (ls : List (Leaf Letter)) (xs : List (Entry Map)) → AreEntries unit leaf ls xs → length xs ≡ length ls
entries_many unit leaf [] [] e = refl
entries_many unit leaf [] (x ∷ xs) e = absurd e
entries_many unit leaf (l ∷ ls) [] e = absurd e
entries_many unit leaf (l ∷ ls) (x ∷ xs) e = ap suc (entries_many unit leaf ls xs e.1)
