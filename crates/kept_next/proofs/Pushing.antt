-- Symbols are listed one after another.
use Rattle.std.proofs.Common.{◌≡◌, ℕ, suc, ◌+◌, ◌<◌, List, [], ◌∷◌, ◌++◌, length, map, take, get_or, sym, ap, ◌∙◌, arith, append_assoc}
use Rattle.std.proofs.lemmas.List.{map-append, take_more, length-take-le}
use Rattle.kept_next.specs.declared.symbol.SymbolName.{SymbolName}
use Rattle.kept_next.specs.Order.{numbered}
use Rattle.kept_next.specs.inside.Sorting.{symbol_of}
use Rattle.kept_next.specs.declared.order.Symbol.{Symbol}
use Rattle.kept_next.specs.declared.listing.ListedSymbol.{ListedSymbol}

module _ (named : ℕ → SymbolName) where
  -- one symbol more has the next number
  numbered-push : (first : ℕ) (xs : List ℕ) (x number : ℕ) → number ≡ first + length xs →
      numbered named first (xs ++ x ∷ []) ≡ numbered named first xs ++ record { number = number; name = named x } ∷ []
  numbered-push first [] x number e = ap (λ (n : ℕ). record { number = n; name = named x } ∷ []) (let same : first ≡ number = omega (arith, e) in same)
  numbered-push first (y ∷ xs) x number e = ap (λ (ys : List Symbol). record { number = first; name = named y } ∷ ys) (numbered-push (suc first) xs x number (omega (arith, e)))

  -- the next of some symbols was put at the end
  pub listed-next : (old listed new : List ListedSymbol) (one : ListedSymbol) (first : ℕ) (xs : List ℕ) (n x number : ℕ) →
      map symbol_of listed ≡ map symbol_of old ++ numbered named first (take n xs) → n < length xs → x ≡ get_or xs n x → number ≡ first + n →
      one.symbol ≡ record { number = number; name = named x } → new ≡ listed ++ one ∷ [] → map symbol_of new ≡ map symbol_of old ++ numbered named first (take (n + 1) xs)
  listed-next old listed new one first xs n x number so l at e is put =
      let many : length (take n xs) ≡ n = length-take-le n xs (omega arith) in
      let more : take (n + 1) xs ≡ take n xs ++ x ∷ [] = take_more xs n x l ∙ ap (λ (y : ℕ). take n xs ++ y ∷ []) (sym at) in
      ap (map symbol_of) put
      ∙ map-append symbol_of listed (one ∷ [])
      ∙ (λ i. so i ++ is i ∷ [])
      ∙ append_assoc (map symbol_of old) (numbered named first (take n xs)) (record { number = number; name = named x } ∷ [])
      ∙ ap (λ zs. map symbol_of old ++ zs) (sym (numbered-push first (take n xs) x number (omega (arith, e, many))) ∙ ap (numbered named first) (sym more))
