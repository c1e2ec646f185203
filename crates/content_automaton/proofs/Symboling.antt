-- The symbols of names.
use Rattle.std.proofs.Common.{◌≡◌, ℕ, ◌+◌, ◌<◌, ◌==◌, Bool, cond, List, [], ◌∷◌, Option, Some, None, length, map, get_or, position, refl, sym, ap, ◌∙◌, arith}
use Rattle.std.specs.Prelude.{All}
use Rattle.std.specs.Bool.{Decides}
use Rattle.std.specs.List.{position_from}
use Rattle.std.proofs.lemmas.Bool.Decides.{Decides-eqb, same_from_decides}
use Rattle.std.proofs.lemmas.Iterator.Adapters.{position_from-zero}
use Rattle.std.proofs.lemmas.List.{length-map, get_or-map, get_or_append_left}
use Rattle.std.proofs.lemmas.List.Elements.{All-head, All-tail}
use Rattle.std.proofs.lemmas.Option.{slice_get-get_or, slice_get_within, get_or_from_slice_get}
use Rattle.xs_names.specs.Names.{NameTable, Grown, same_name, space_of}
use Rattle.xs_names.specs.Numbering.{number_of, HasNoRepeats}
use Rattle.xs_names.proofs.NumberingLaws.{position_from-map, same_name-Decides, slice_get-number_of}
use Rattle.content_automaton.specs.Terms.{ExpandedName, name_at}
use Rattle.content_automaton.specs.Symbols.{SymbolTable, AreNamesOf, symbol_among, symbol_of, count_of}

abbrev pub same : ℕ → ℕ → Bool
same a b = a == b

-- two tests that agree at each item find the same place
agree : {X : Type 0} (p q : X → Bool) (i : ℕ) (xs : List X) → All (λ x. p x ≡ q x) xs → position_from p i xs ≡ position_from q i xs
agree p q i [] h = refl
agree p q i (x ∷ xs) h =
    ap (λ b. cond b (Some i) (position_from p (i + 1) xs)) (All-head (λ x. p x ≡ q x) x xs h) ∙
    ap (cond (q x) (Some i)) (agree p q (i + 1) xs (All-tail (λ x. p x ≡ q x) x xs h))

-- the number of a name in the list of names, and of a namespace in that of namespaces
abbrev pub own_of : NameTable → SymbolTable → ExpandedName → Option ℕ
own_of t s name = number_of same_name (map (name_at t) s.names) name

abbrev pub space_number : SymbolTable → ℕ → Option ℕ
space_number s ns = number_of same s.spaces ns

pub among : (t : NameTable) (s : SymbolTable) (name : ExpandedName) (own space : Option ℕ) → own_of t s name ≡ own → space_number s name.0 ≡ space →
    symbol_of t s name ≡ symbol_among own space (length s.names) (length s.spaces)
among t s name own space e f = ap (λ o. symbol_among o (space_number s name.0) (length s.names) (length s.spaces)) e ∙ ap (λ o. symbol_among own o (length s.names) (length s.spaces)) f

module _ (t : NameTable) (s : SymbolTable) (once : HasNoRepeats t.names) (within : AreNamesOf t s.names) where
  pub same_number : (n m : ℕ) → n < length t.names → m < length t.names → name_at t n ≡ name_at t m → n ≡ m
  same_number n m a b e =
      once n m (name_at t m) (slice_get-get_or t.names n (0, []) a ∙ ap Some e) (slice_get-get_or t.names m (0, []) b)

  decides : (n m : ℕ) → n < length t.names → m < length t.names → Decides (same_name (name_at t n) (name_at t m)) (n ≡ m)
  decides n m a b =
      let d = same_name-Decides (name_at t n) (name_at t m) in
      ((λ e. same_number n m a b (d.0 e)), (λ e. d.1 (ap (name_at t) e)))

  pub own_number : (n : ℕ) → n < length t.names → own_of t s (name_at t n) ≡ number_of same s.names n
  own_number n l =
      sym (position_from-map (name_at t) (same_name (name_at t n)) 0 s.names) ∙
      agree (λ m. same_name (name_at t n) (name_at t m)) (same n) 0 s.names
      (λ k d h. same_from_decides (same_name (name_at t n) (name_at t (get_or s.names k d))) (same n (get_or s.names k d)) (decides n (get_or s.names k d) l (within k d h)) (Decides-eqb n (get_or s.names k d)))

  module _ (n : ℕ) (l : n < length t.names) where
    pub symbol_own : (i : ℕ) → Some i ≡ position (λ m. n == m) s.names → symbol_of t s (name_at t n) ≡ i
    symbol_own i e =
        among t s (name_at t n) (Some i) (space_number s (space_of t n)) (own_number n l ∙ (sym (position_from-zero (same n) s.names) ∙ sym e)) refl

    pub symbol_space : (j : ℕ) → None ≡ position (λ m. n == m) s.names → Some j ≡ position (λ m. space_of t n == m) s.spaces → symbol_of t s (name_at t n) ≡ length s.names + j
    symbol_space j e f =
        among t s (name_at t n) None (Some j) (own_number n l ∙ (sym (position_from-zero (same n) s.names) ∙ sym e))
        (sym (position_from-zero (same (space_of t n)) s.spaces) ∙ sym f)

    pub symbol_last : None ≡ position (λ m. n == m) s.names → None ≡ position (λ m. space_of t n == m) s.spaces → symbol_of t s (name_at t n) ≡ length s.names + length s.spaces
    symbol_last e f =
        among t s (name_at t n) None None (own_number n l ∙ (sym (position_from-zero (same n) s.names) ∙ sym e))
        (sym (position_from-zero (same (space_of t n)) s.spaces) ∙ sym f)

-- what a symbol is
pub data SymbolCase (t : NameTable) (s : SymbolTable) (name : ExpandedName) : Type 0 where
  own : (i : ℕ) (is : symbol_of t s name ≡ i) (below : i < length s.names) (of : name_at t (get_or s.names i 0) ≡ name) (found : own_of t s name ≡ Some i) → SymbolCase t s name
  space : (j : ℕ) (is : symbol_of t s name ≡ length s.names + j) (below : j < length s.spaces) (of : get_or s.spaces j 0 ≡ name.0) (none : own_of t s name ≡ None) → SymbolCase t s name
  last : (is : symbol_of t s name ≡ length s.names + length s.spaces) (none : own_of t s name ≡ None) (nowhere : space_number s name.0 ≡ None) → SymbolCase t s name

pub symbol_case : (t : NameTable) (s : SymbolTable) (name : ExpandedName) → SymbolCase t s name
symbol_case t s name = by (own_of t s name) (space_number s name.0) refl refl
  where
    by : (o p : Option ℕ) → own_of t s name ≡ o → space_number s name.0 ≡ p → SymbolCase t s name
    by (Some i) p e f =
        let g = slice_get-number_of same_name same_name-Decides (map (name_at t) s.names) name i e in
        let w = slice_get_within (map (name_at t) s.names) i name g in
        let n : length (map (name_at t) s.names) ≡ length s.names = length-map s.names (name_at t) in
        let l : i < length s.names = omega arith in
        own i (among t s name (Some i) p e f) l (sym (get_or-map (name_at t) s.names i 0 name l) ∙ get_or_from_slice_get (map (name_at t) s.names) i name name g) e
    by None (Some j) e f =
        let g = slice_get-number_of same Decides-eqb s.spaces name.0 j f in
        space j (among t s name None (Some j) e f) (slice_get_within s.spaces j name.0 g) (get_or_from_slice_get s.spaces j name.0 0 g) e
    by None None e f = last (among t s name None None e f) e f

pub symbol_below : (t : NameTable) (s : SymbolTable) (name : ExpandedName) → symbol_of t s name < count_of s
symbol_below t s name = elim (symbol_case t s name) [
  | own i is below of found ↦ omega arith
  | space j is below of none ↦ omega arith
  | last is none nowhere ↦ omega arith
]

-- the symbol of a name with one of its own is no other name's
pub symbol_inj : (t : NameTable) (s : SymbolTable) (x name : ExpandedName) (i : ℕ) → own_of t s x ≡ Some i → symbol_of t s x ≡ symbol_of t s name → x ≡ name
symbol_inj t s x name i e same = by (symbol_case t s x) (symbol_case t s name)
  where
    by : SymbolCase t s x → SymbolCase t s name → x ≡ name
    by (own i is below of found) (own j is' below' of' found') = sym of ∙ (ap (λ k. name_at t (get_or s.names k 0)) (sym is ∙ (same ∙ is')) ∙ of')
    by (own i is below of found) (space j is' below' of' none') = absurd (omega arith)
    by (own i is below of found) (last is' none' nowhere') = absurd (omega arith)
    by (space j is below of none) d = absurd (let z : None ≡ Some i = sym none ∙ e in cc)
    by (last is none nowhere) d = absurd (let z : None ≡ Some i = sym none ∙ e in cc)

-- a table that has grown
pub name_grown : (old new : NameTable) → Grown old new → (n : ℕ) → n < length old.names → name_at new n ≡ name_at old n
name_grown old new g n l = ap (λ (names : List ExpandedName). get_or {A = ExpandedName} names n (0, [])) g.names.1 ∙ get_or_append_left old.names g.names.0 (0, []) n l

names_grown : (old new : NameTable) → Grown old new → (names : List ℕ) → AreNamesOf old names → map (name_at new) names ≡ map (name_at old) names
names_grown old new g [] w = refl
names_grown old new g (n ∷ names) w =
    ap (λ x. x ∷ map (name_at new) names) (name_grown old new g n (All-head (λ n. n < length old.names) n names w)) ∙
    ap (λ xs. name_at old n ∷ xs) (names_grown old new g names (All-tail (λ n. n < length old.names) n names w))

pub symbol_grown : (old new : NameTable) (s : SymbolTable) → Grown old new → AreNamesOf old s.names → (name : ExpandedName) → symbol_of new s name ≡ symbol_of old s name
symbol_grown old new s g w name =
    ap (λ (xs : List ExpandedName). symbol_among (number_of same_name xs name) (space_number s name.0) (length s.names) (length s.spaces)) (names_grown old new g s.names w)
