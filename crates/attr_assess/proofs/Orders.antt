-- Names in order.
use Rattle.std.proofs.Common.{◌≡◌, ℕ, ◌+◌, ◌<◌, ◌≤◌, Bool, true, false, List, [], ◌∷◌, length, get_or, map, refl, sym, ap, ◌∙◌, arith, subst}
use Rattle.std.specs.Prelude.{nat_eq, All}
use Rattle.std.specs.Ordering.{nat_cmp, ordering_then, is_lt, then_cmp, on}
use Rattle.std.specs.Cmp.{IsTotalOrder}
use Rattle.std.specs.Cmp.Lexicographic.{slice_cmp, on_texts}
use Rattle.std.specs.List.Sorted.{IsPermutation, IsSortedBy}
use Rattle.std.proofs.lemmas.Cmp.{then_total, nat_eq_equiv}
use Rattle.std.proofs.lemmas.List.{get_or-map, length-map}
use Rattle.std.proofs.lemmas.List.Elements.{All-get_or}
use Rattle.std.proofs.lemmas.List.Sorted.{All-permutation, Contains-permutation}
use Rattle.std.proofs.lemmas.Map.Keys.{IsDistinct-IsPermutation}
use Rattle.xs_names.specs.Names.{NameTable, local_of}
use Rattle.xs_components.specs.Tables.{Tables}
use Rattle.attr_uses.specs.declared.entry.UseAt.{UseAt}
use Rattle.attr_assess.specs.Lacking.{AreThose}
use Rattle.attr_assess.specs.Order.{space_text, is_before}
use Rattle.attr_assess.specs.Added.{IsAddedUse}
use Rattle.attr_assess.specs.inside.Uses.{use_order, is_use_before, name_of}
use Rattle.attr_assess.specs.declared.added.AddedUse.{AddedUse}

-- uses are in one order by their names
pub use_order_total : IsTotalOrder use_order
use_order_total = then_total (on_texts (λ (a : AddedUse). a.space.now)) (on_texts (λ (a : AddedUse). a.local.now))

-- all names that pass a test, in another order
pub those-permutation : (test : ℕ → Bool) (bound : ℕ) (xs ys : List ℕ) → IsPermutation xs ys → AreThose test bound xs → AreThose test bound ys
those-permutation test bound xs ys moved those = record {
  once = IsDistinct-IsPermutation nat_eq nat_eq_equiv.symm xs ys moved those.once;
  below = All-permutation (λ name. name < bound) xs ys moved those.below;
  hold = All-permutation (λ name. test name ≡ true) xs ys moved those.hold;
  each = λ name h e. Contains-permutation xs ys name moved (those.each name h e);
}

module _ (names : NameTable) (t : Tables) (uses : List UseAt) where
  same-order : (a b : AddedUse) → IsAddedUse names t uses a → IsAddedUse names t uses b → is_use_before a b ≡ is_before names a.name b.name
  same-order a b x y = λ i. is_lt (ordering_then (slice_cmp nat_cmp (x.space i) (y.space i)) (slice_cmp nat_cmp (x.local i) (y.local i)))

  -- the names of uses that are in the order of their names
  pub names-sorted : (xs : List AddedUse) → All (IsAddedUse names t uses) xs → IsSortedBy is_use_before xs → IsSortedBy (is_before names) (map name_of xs)
  names-sorted [] all up k d low high = absurd (omega arith)
  names-sorted (x ∷ xs) all up k d low high =
      let within : k + 1 < length (x ∷ xs) = subst (λ n. k + 1 < n) (length-map (x ∷ xs) name_of) high in
      let before : k < length (x ∷ xs) = omega arith in
      let first = All-get_or (IsAddedUse names t uses) (x ∷ xs) k x before all in
      let second = All-get_or (IsAddedUse names t uses) (x ∷ xs) (k + 1) x within all in
      let here : get_or (map name_of (x ∷ xs)) k d ≡ name_of (get_or (x ∷ xs) k x) = get_or-map name_of (x ∷ xs) k x d before in
      let there : get_or (map name_of (x ∷ xs)) (k + 1) d ≡ name_of (get_or (x ∷ xs) (k + 1) x) = get_or-map name_of (x ∷ xs) (k + 1) x d within in
      (λ i. is_before names (there i) (here i))
      ∙ (sym (same-order (get_or (x ∷ xs) (k + 1) x) (get_or (x ∷ xs) k x) second first) ∙ up k x low within)
