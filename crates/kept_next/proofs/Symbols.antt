-- The symbols of a table, and the names that they stand for.
use Rattle.std.proofs.Common.{◌≡◌, ℕ, suc, ◌+◌, ◌<◌, List, [], ◌∷◌, ◌++◌, Some, None, length, map, get_or, refl, sym, ap, subst, ◌∙◌, arith}
use Rattle.std.specs.Prelude.{All, Contains}
use Rattle.std.proofs.lemmas.Bool.Decides.{Decides-eqb}
use Rattle.std.proofs.lemmas.List.{get_or-map, get_or_default, length-map}
use Rattle.std.proofs.lemmas.List.Elements.{All-nil, All-cons, All-append, All-get_or}
use Rattle.std.proofs.lemmas.List.Sorted.{All-permutation}
use Rattle.std.proofs.lemmas.Option.{slice_get-get_or, slice_get_within, get_or_from_slice_get}
use Rattle.xs_names.specs.Names.{NameTable, same_name}
use Rattle.xs_names.specs.Numbering.{HasNoRepeats}
use Rattle.xs_names.proofs.NumberingLaws.{same_name-Decides, number_of-slice_get, number_of-nowhere}
use Rattle.content_automaton.specs.Terms.{ExpandedName, name_at}
use Rattle.content_automaton.specs.Symbols.{SymbolTable, AreNamesOf, symbol_of, count_of}
use Rattle.content_automaton.proofs.Items.{contains_get}
use Rattle.content_automaton.proofs.Symboling.{same, own_of, space_number, among, own_number}
use Rattle.kept_next.specs.declared.symbol.SymbolName.{SymbolName}
use Rattle.kept_next.specs.declared.symbol.SymbolName.TheVariants.{Name, Namespace, Other}
use Rattle.kept_next.specs.Order.{IsOrderOf, numbered, symbols_of}
use Rattle.kept_next.specs.declared.order.Symbol.{Symbol}
use Rattle.kept_next.specs.Words.{HasNone, IsNameOf}

module _ (P : Symbol → Type 0) where
  all-numbered : (named : ℕ → SymbolName) (first : ℕ) (xs : List ℕ) → ((k : ℕ) → k < length xs → P (record { number = first + k; name = named (get_or xs k 0) })) → All P (numbered named first xs)
  all-numbered named first [] h = All-nil P
  all-numbered named first (x ∷ xs) h =
      let here : first + 0 ≡ first = omega arith in
      All-cons P (record { number = first; name = named x }) (numbered named (suc first) xs)
      (subst (λ (n : ℕ). P (record { number = n; name = named x })) here (h 0 (omega arith)))
      (all-numbered named (suc first) xs (λ k l.
      let next : first + suc k ≡ suc first + k = omega arith in
      subst (λ (n : ℕ). P (record { number = n; name = named (get_or xs k 0) })) next (h (suc k) (omega (arith, l)))))

  -- what is true of the symbols of names, of those of namespaces and of the one more is true of each symbol in print order
  pub all-symbols : (t : NameTable) (s : SymbolTable) (symbols : List Symbol) → IsOrderOf t s.names s.spaces symbols →
      ((k : ℕ) → k < length s.names → P (record { number = 0 + k; name = Name (get_or s.names k 0) })) →
      ((k : ℕ) → k < length s.spaces → P (record { number = length s.names + k; name = Namespace (get_or s.spaces k 0) })) →
      P (record { number = length s.names + length s.spaces; name = Other }) → (n : ℕ) (d : Symbol) → n < length symbols → P (get_or symbols n d)
  all-symbols t s symbols order names spaces other n d l =
      All-get_or P symbols n d l
      (All-permutation P (symbols_of s.names s.spaces) symbols order.all
      (All-append P (numbered Name 0 s.names ++ numbered Namespace (length s.names) s.spaces) (record { number = length s.names + length s.spaces; name = Other } ∷ [])
      (All-append P (numbered Name 0 s.names) (numbered Namespace (length s.names) s.spaces) (all-numbered Name 0 s.names names) (all-numbered Namespace (length s.names) s.spaces spaces))
      (All-cons P (record { number = length s.names + length s.spaces; name = Other }) [] other (All-nil P))))

-- each number is that of a symbol
pub number-below : (t : NameTable) (s : SymbolTable) (symbols : List Symbol) → IsOrderOf t s.names s.spaces symbols → (n : ℕ) (d : Symbol) → n < length symbols → (get_or symbols n d).number < count_of s
number-below t s symbols order n d l =
    all-symbols (λ (x : Symbol). x.number < count_of s) t s symbols order (λ k m. omega (arith, m)) (λ k m. omega (arith, m)) (omega arith) n d l

module _ (t : NameTable) (s : SymbolTable) (once : HasNoRepeats t.names) (within : AreNamesOf t s.names) (names_once : HasNoRepeats s.names) (spaces_once : HasNoRepeats s.spaces) where
  -- a name that is no symbol's own
  none-own : (name : ExpandedName) → HasNone t s name → own_of t s name ≡ None
  none-own name none = number_of-nowhere same_name same_name-Decides (map (name_at t) s.names) name
      (λ n e.
      let inside = slice_get_within (map (name_at t) s.names) n name e in
      let many = length-map s.names (name_at t) in
      let low : n < length s.names = omega (arith, inside, many) in
      none (get_or s.names n 0) (n, low, get_or-same n low)
      (sym (get_or-map (name_at t) s.names n 0 name low) ∙ get_or_from_slice_get (map (name_at t) s.names) n name name e))
    where
      get_or-same : (n : ℕ) → n < length s.names → get_or s.names n (get_or s.names n 0) ≡ get_or s.names n 0
      get_or-same n low = get_or_default s.names n (get_or s.names n 0) 0 low

  of-name : (k : ℕ) → k < length s.names → (name : ExpandedName) → name_at t (get_or s.names k 0) ≡ name → symbol_of t s name ≡ 0 + k
  of-name k l name e =
      let x : ℕ = get_or s.names k 0 in
      subst (λ (z : ExpandedName). symbol_of t s z ≡ k) e
      (among t s (name_at t x) (Some k) (space_number s (name_at t x).0)
      (own_number t s once within x (within k 0 l) ∙ number_of-slice_get same Decides-eqb s.names names_once x k (slice_get-get_or s.names k 0 l)) refl)
      ∙ (let z : k ≡ 0 + k = omega arith in z)

  of-space : (k : ℕ) → k < length s.spaces → (name : ExpandedName) → (name.0 ≡ get_or s.spaces k 0) × HasNone t s name → symbol_of t s name ≡ length s.names + k
  of-space k l name (e, none) =
      among t s name None (Some k) (none-own name none)
      (ap (space_number s) e ∙ number_of-slice_get same Decides-eqb s.spaces spaces_once (get_or s.spaces k 0) k (slice_get-get_or s.spaces k 0 l))

  of-other : (name : ExpandedName) → (Contains s.spaces name.0 → ⊥) × HasNone t s name → symbol_of t s name ≡ length s.names + length s.spaces
  of-other name (nowhere, none) =
      among t s name None None (none-own name none)
      (number_of-nowhere same Decides-eqb s.spaces name.0 (λ n e. nowhere (contains_get s.spaces n name.0 e)))

  -- the symbol of a name that a symbol stands for is this one
  pub named-symbol : (symbols : List Symbol) → IsOrderOf t s.names s.spaces symbols → (n : ℕ) (d : Symbol) → n < length symbols → (name : ExpandedName) → IsNameOf t s (get_or symbols n d).name name →
      symbol_of t s name ≡ (get_or symbols n d).number
  named-symbol symbols order n d l name of =
      all-symbols (λ (x : Symbol). (name : ExpandedName) → IsNameOf t s x.name name → symbol_of t s name ≡ x.number) t s symbols order of-name of-space of-other n d l name of
