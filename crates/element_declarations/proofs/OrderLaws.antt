-- Elements by their places.
use Rattle.std.proofs.Common.{◌≡◌, ℕ, zero, suc, ◌+◌, ◌<◌, false, List, [], ◌∷◌, ◌++◌, length, take, get_or, refl, sym, ◌∙◌, subst, ap, arith}
use Rattle.std.specs.Prelude.{All, Contains}
use Rattle.std.specs.List.{AllByRecursion, AllPairs, IsDistinct}
use Rattle.std.specs.List.Sorted.{IsPermutation, IsSorted, IsStrictlySortedBy, IsStrictlyIncreasing}
use Rattle.std.specs.Ordering.{nat_cmp, ordering_then, ordering_reverse, is_lt, is_eq, eq_by_cmp}
use Rattle.std.specs.declared.cmp.Ordering.{Ordering}
use Rattle.std.specs.declared.cmp.Ordering.TheVariants.{Less, Equal, Greater}
use Rattle.std.specs.Cmp.{IsTotalOrder}
use Rattle.std.proofs.lemmas.Bool.{true≢false}
use Rattle.std.proofs.lemmas.Cmp.{nat_cmp_total, then_total}
use Rattle.std.proofs.lemmas.List.Elements.{All-nil, All-cons, All-get_or, All-from_recursion, recursion_from_All, All-from_get_or, Contains-get_or}
use Rattle.std.proofs.lemmas.List.Sorted.{All-permutation, Contains-permutation, sorted_far, ranks_by}
use Rattle.std.proofs.lemmas.Map.Keys.{IsDistinct-IsPermutation, IsDistinct-from_sorted, sorted_from_strictly_increasing}
use Rattle.xs_components.specs.Tables.{Tables}
use Rattle.element_declarations.specs.Groups.{by_place, place_of}
use Rattle.element_declarations.specs.inside.Steps.{IsInOrder, AreCounted}

less-equal : Less ≡ Equal → ⊥
less-equal e = cc

greater-equal : Greater ≡ Equal → ⊥
greater-equal e = cc

then-equal : (p q : Ordering) → ordering_then p q ≡ Equal → q ≡ Equal
then-equal Less q e = absurd (less-equal e)
then-equal Equal q e = e
then-equal Greater q e = absurd (greater-equal e)

-- what is not above another and differs from it is below
less-of : (back there : Ordering) → there ≡ ordering_reverse back → is_lt back ≡ false → (there ≡ Equal → ⊥) → there ≡ Less
less-of Less there e lt differ = absurd (true≢false lt)
less-of Equal there e lt differ = absurd (differ e)
less-of Greater there e lt differ = e

reverse-eq : (o : Ordering) → is_eq (ordering_reverse o) ≡ is_eq o
reverse-eq Less = refl
reverse-eq Equal = refl
reverse-eq Greater = refl

flips : (x y : ℕ) → eq_by_cmp nat_cmp x y ≡ eq_by_cmp nat_cmp y x
flips x y = ap is_eq (nat_cmp_total.antisymm x y) ∙ reverse-eq (nat_cmp y x)

module _ (t : Tables) where
  on-total : (f : ℕ → ℕ) → IsTotalOrder (λ x y. nat_cmp (f x) (f y))
  on-total f = record {
    antisymm = λ x y. nat_cmp_total.antisymm (f x) (f y);
    trans = λ x y z. nat_cmp_total.trans (f x) (f y) (f z);
    congr = λ x y z. nat_cmp_total.congr (f x) (f y) (f z);
  }

  place-total : IsTotalOrder (by_place t)
  place-total = then_total (then_total (on-total (λ x. (place_of t x).document)) (on-total (λ x. (place_of t x).item))) nat_cmp_total

  below-next : (x y : ℕ) → is_lt (by_place t y x) ≡ false → eq_by_cmp nat_cmp x y ≡ false → by_place t x y ≡ Less
  below-next x y lt differ =
      less-of (by_place t y x) (by_place t x y) (place-total.antisymm x y) lt
      (λ e. true≢false (sym (ap is_eq (then-equal _ (nat_cmp x y) e)) ∙ differ))

  strict : (xs : List ℕ) → AllPairs (λ a b. is_lt (by_place t b a) ≡ false) xs → IsDistinct (eq_by_cmp nat_cmp) xs → IsStrictlySortedBy (by_place t) xs
  unfolding IsDistinct IsStrictlySortedBy
  strict [] pairs differ = tt
  strict (x ∷ xs) pairs differ = (
    recursion_from_All (λ y. by_place t x y ≡ Less) xs
        (λ j d inside. below-next x (get_or xs j d) (pairs zero (suc j) d (omega arith) (omega arith)) (All-from_recursion (λ y. eq_by_cmp nat_cmp x y ≡ false) xs differ.0 j d inside)),
    strict xs (λ i j d below inside. pairs (suc i) (suc j) d (omega arith) (omega arith)) differ.1,
  )

  rises : (numbers : List ℕ) → AreCounted numbers → IsStrictlyIncreasing numbers
  rises numbers counted k l = let a = counted k (omega arith) in let b = counted (k + 1) l in omega (arith, a, b)

  -- all numbers, sorted by the places of their elements
  pub in-order : (numbers sorted : List ℕ) → length numbers ≡ length t.elements.parts → AreCounted numbers → IsPermutation numbers sorted → IsSorted (by_place t) sorted → IsInOrder t sorted
  in-order numbers sorted long counted moved up = record {
    there = All-permutation (λ e. e < length t.elements.parts) numbers sorted moved
        (All-from_get_or (λ e. e < length t.elements.parts) numbers 0 (λ i l. let a = counted i l in omega (arith, a, l, long)));
    each = λ e l. Contains-permutation numbers sorted e moved (let l2 : e < length numbers = omega (arith, l, long) in subst (Contains numbers) (counted e l2) (Contains-get_or numbers e 0 l2));
    ordered = strict sorted
        (λ i j d below inside. sorted_far (λ x y. is_lt (by_place t x y)) (ranks_by place-total (λ x. x)) sorted up i j d (omega arith) inside)
        (IsDistinct-IsPermutation (eq_by_cmp nat_cmp) flips numbers sorted moved (IsDistinct-from_sorted nat_cmp numbers (sorted_from_strictly_increasing numbers (rises numbers counted))));
  }

  -- those before a place
  pub before-place : (xs : List ℕ) (i d : ℕ) → IsStrictlySortedBy (by_place t) xs → i < length xs → All (λ x. by_place t x (get_or xs i d) ≡ Less) (take i xs)
  unfolding IsStrictlySortedBy
  before-place [] i d s l = absurd (omega arith)
  before-place (x ∷ xs) zero d s l = All-nil (λ y. by_place t y x ≡ Less)
  before-place (x ∷ xs) (suc i) d s l =
      All-cons (λ y. by_place t y (get_or xs i d) ≡ Less) x (take i xs)
      (All-get_or (λ y. by_place t x y ≡ Less) xs i d (omega arith) (All-from_recursion (λ y. by_place t x y ≡ Less) xs s.0))
      (before-place xs i d s.1 (omega arith))

  less-push : (x : ℕ) (xs : List ℕ) (y : ℕ) → AllByRecursion (λ z. by_place t x z ≡ Less) xs → by_place t x y ≡ Less → AllByRecursion (λ z. by_place t x z ≡ Less) (xs ++ y ∷ [])
  less-push x [] y all l = (l, tt)
  less-push x (z ∷ zs) y all l = (all.0, less-push x zs y all.1 l)

  -- one more behind all others
  pub sorted-push : (xs : List ℕ) (y : ℕ) → IsStrictlySortedBy (by_place t) xs → AllByRecursion (λ x. by_place t x y ≡ Less) xs → IsStrictlySortedBy (by_place t) (xs ++ y ∷ [])
  unfolding IsStrictlySortedBy
  sorted-push [] y s all = (tt, tt)
  sorted-push (x ∷ xs) y s all = (less-push x xs y s.0 all.0, sorted-push xs y s.1 all.1)
