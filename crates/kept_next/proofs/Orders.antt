-- Symbols in print order.
use Rattle.std.proofs.Common.{◌≡◌, ℕ, ◌+◌, ◌<◌, List, [], ◌∷◌, length, get_or, map, sym, ◌∙◌, arith, subst}
use Rattle.std.specs.Prelude.{All}
use Rattle.std.specs.Ordering.{nat_cmp, ordering_then, is_lt}
use Rattle.std.specs.Cmp.{IsTotalOrder}
use Rattle.std.specs.Cmp.Lexicographic.{slice_cmp, on_texts}
use Rattle.std.specs.List.Sorted.{IsPermutation, IsSortedBy}
use Rattle.std.proofs.lemmas.Cmp.{then_total, on_total, nat_cmp_total}
use Rattle.std.proofs.lemmas.List.{get_or-map, length-map}
use Rattle.std.proofs.lemmas.List.Elements.{All-get_or}
use Rattle.std.proofs.lemmas.List.Sorted.{All-permutation, IsPermutation-map}
use Rattle.xs_names.specs.Names.{NameTable}
use Rattle.kept_next.specs.Order.{kind_of, space_name, local_name, print_order, is_before, symbols_of, IsOrderOf}
use Rattle.kept_next.specs.inside.Sorting.{HasTexts, symbol_of, text_order, is_text_before}
use Rattle.kept_next.specs.declared.order.Symbol.{Symbol}
use Rattle.kept_next.specs.declared.listing.ListedSymbol.{ListedSymbol}

pub print-total : (names : NameTable) → IsTotalOrder (print_order names)
print-total names = then_total (on_total kind_of nat_cmp_total) (then_total (on_texts (space_name names)) (on_texts (local_name names)))

pub text-total : IsTotalOrder text_order
text-total =
    then_total (on_total (λ (x : ListedSymbol). kind_of x.symbol.name) nat_cmp_total)
    (then_total (on_texts (λ (x : ListedSymbol). x.space.now)) (on_texts (λ (x : ListedSymbol). x.local.now)))

module _ (names : NameTable) where
  same-order : (a b : ListedSymbol) → HasTexts names a → HasTexts names b → is_text_before a b ≡ is_before names a.symbol b.symbol
  same-order a b x y =
      λ i. is_lt (ordering_then (nat_cmp (kind_of a.symbol.name) (kind_of b.symbol.name))
      (ordering_then (slice_cmp nat_cmp (x.space i) (y.space i)) (slice_cmp nat_cmp (x.local i) (y.local i))))

  symbols-sorted : (xs : List ListedSymbol) → All (HasTexts names) xs → IsSortedBy is_text_before xs → IsSortedBy (is_before names) (map symbol_of xs)
  symbols-sorted [] all up k d low high = absurd (omega arith)
  symbols-sorted (x ∷ xs) all up k d low high =
      let within : k + 1 < length (x ∷ xs) = subst (λ n. k + 1 < n) (length-map (x ∷ xs) symbol_of) high in
      let before : k < length (x ∷ xs) = omega arith in
      let first = All-get_or (HasTexts names) (x ∷ xs) k x before all in
      let second = All-get_or (HasTexts names) (x ∷ xs) (k + 1) x within all in
      let here : get_or (map symbol_of (x ∷ xs)) k d ≡ symbol_of (get_or (x ∷ xs) k x) = get_or-map symbol_of (x ∷ xs) k x d before in
      let there : get_or (map symbol_of (x ∷ xs)) (k + 1) d ≡ symbol_of (get_or (x ∷ xs) (k + 1) x) = get_or-map symbol_of (x ∷ xs) (k + 1) x d within in
      (λ i. is_before names (there i) (here i))
      ∙ (sym (same-order (get_or (x ∷ xs) (k + 1) x) (get_or (x ∷ xs) k x) second first) ∙ up k x low within)

  -- listed and sorted, symbols are in the order in which they are printed
  pub order-is : (own spaces : List ℕ) (listed sorted : List ListedSymbol) (symbols : List Symbol) → map symbol_of listed ≡ symbols_of own spaces → All (HasTexts names) listed →
      IsPermutation listed sorted → IsSortedBy is_text_before sorted → symbols ≡ map symbol_of sorted → IsOrderOf names own spaces symbols
  order-is own spaces listed sorted symbols is texts moved up e = subst (IsOrderOf names own spaces) (sym e) (record {
    all = subst (λ xs. IsPermutation xs (map symbol_of sorted)) is (IsPermutation-map symbol_of listed sorted moved);
    rises = symbols-sorted sorted (All-permutation (HasTexts names) listed sorted moved texts) up;
  })
