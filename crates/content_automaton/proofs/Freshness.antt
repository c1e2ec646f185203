-- Each symbol is some name's.
use Rattle.std.proofs.Common.{◌≡◌, ℕ, suc, ◌+◌, ◌-◌, ◌<◌, ◌≤◌, inl, inr, List, [], ◌∷◌, Some, None, length, map, get_or, replicate, refl, ap, ◌∙◌, arith}
use Rattle.std.specs.Prelude.{Contains}
use Rattle.std.proofs.lemmas.Bool.{cases_lt}
use Rattle.std.proofs.lemmas.Bool.Decides.{Decides-eqb}
use Rattle.std.proofs.lemmas.List.{length-replicate}
use Rattle.std.proofs.lemmas.Option.{slice_get-get_or}
use Rattle.xs_names.specs.Names.{NameTable, same_name}
use Rattle.xs_names.specs.Numbering.{HasNoRepeats}
use Rattle.xs_names.proofs.NumberingLaws.{same_name-Decides, number_of-slice_get, number_of-nowhere}
use Rattle.content_automaton.specs.Terms.{ExpandedName, name_at}
use Rattle.content_automaton.specs.Symbols.{SymbolTable, AreNamesOf, symbol_of, count_of}
use Rattle.content_automaton.proofs.Items.{contains_cases, none_contained, contains_get}
use Rattle.content_automaton.proofs.Symboling.{same, own_of, space_number, among, own_number}

lengths : List ExpandedName → ℕ
lengths [] = 0
lengths (x ∷ xs) = length x.1 + lengths xs

shorter : (xs : List ExpandedName) (x : ExpandedName) → Contains xs x → length x.1 ≤ lengths xs
unfolding lengths
shorter [] x c = absurd (none_contained x c)
shorter (y ∷ xs) x c = elim (contains_cases y xs x c) [
  | inl e ↦ (let k : length x.1 ≡ length y.1 = ap (λ (z : ExpandedName). length z.1) e in omega arith)
  | inr d ↦ (let k = shorter xs x d in omega arith)
]

total : List ℕ → ℕ
total [] = 0
total (x ∷ xs) = x + total xs

smaller : (xs : List ℕ) (x : ℕ) → Contains xs x → x ≤ total xs
unfolding total
smaller [] x c = absurd (none_contained x c)
smaller (y ∷ xs) x c = elim (contains_cases y xs x c) [
  | inl e ↦ omega arith
  | inr d ↦ (let k = smaller xs x d in omega arith)
]

module _ (t : NameTable) (s : SymbolTable) where
  -- a local part that no name with a symbol has, and a namespace without a symbol
  fresh_local : List ℕ
  fresh_local = replicate (suc (lengths (map (name_at t) s.names))) 0

  fresh_space : ℕ
  fresh_space = suc (total s.spaces)

  no_own : (ns : ℕ) → own_of t s (ns, fresh_local) ≡ None
  unfolding fresh_local
  no_own ns = number_of-nowhere same_name same_name-Decides (map (name_at t) s.names) (ns, fresh_local)
      (λ n e. let k = shorter (map (name_at t) s.names) (ns, fresh_local) (contains_get (map (name_at t) s.names) n (ns, fresh_local) e) in
      let l : length fresh_local ≡ suc (lengths (map (name_at t) s.names)) = length-replicate (suc (lengths (map (name_at t) s.names))) 0 in omega arith)

  no_space : space_number s fresh_space ≡ None
  unfolding fresh_space
  no_space = number_of-nowhere same Decides-eqb s.spaces fresh_space
      (λ n e. let k = smaller s.spaces fresh_space (contains_get s.spaces n fresh_space e) in omega arith)

  pub named : AreNamesOf t s.names → HasNoRepeats t.names → HasNoRepeats s.names → HasNoRepeats s.spaces → (n : ℕ) → n < count_of s → (name : ExpandedName) × (symbol_of t s name ≡ n)
  named within once names_once spaces_once n l = elim (cases_lt n (length s.names)) [
    | inl a ↦ (let x : ℕ = get_or s.names n 0 in (
      name_at t x,
      among t s (name_at t x) (Some n) (space_number s (name_at t x).0)
          (own_number t s once within x (within n 0 a) ∙ number_of-slice_get same Decides-eqb s.names names_once x n (slice_get-get_or s.names n 0 a)) refl,
    ))
    | inr a ↦ elim (cases_lt n (length s.names + length s.spaces)) [
      | inl b ↦ (let j : ℕ = n - length s.names in let ns : ℕ = get_or s.spaces j 0 in let c : j < length s.spaces = omega arith in (
        (ns, fresh_local),
        among t s (ns, fresh_local) None (Some j) (no_own ns) (number_of-slice_get same Decides-eqb s.spaces spaces_once ns j (slice_get-get_or s.spaces j 0 c)) ∙
            (let z : length s.names + j ≡ n = omega arith in z),
      ))
      | inr b ↦ (
        (fresh_space, fresh_local),
        among t s (fresh_space, fresh_local) None None (no_own fresh_space) no_space ∙
            (let z : length s.names + length s.spaces ≡ n = omega arith in z),
      )
    ]
  ]
