-- For each term the symbols that it accepts, and for each symbol what is attributed to its names.
use Rattle.std.specs.Prelude.{◌≡◌, ◌==◌, ℕ, ◌<◌, ◌↔◌, List, [], length, slice_index_or, All, Contains}
use Rattle.std.specs.List.{list_any}
use Rattle.std.specs.List.Sorted.{IsStrictlyIncreasing}
use Rattle.xs_names.specs.Names.{NameTable}
use Rattle.xs_names.specs.Numbering.{HasNoRepeats}
use Rattle.content_automaton.specs.declared.symbol_terms.Accepts.{Accepts}
use Rattle.content_automaton.specs.declared.attribution.Attribution.{Attribution}
use Rattle.content_automaton.specs.Terms.{ExpandedName, accepts_name, Gives}
use Rattle.content_automaton.specs.Symbols.{SymbolTable, symbol_of, count_of}
use Rattle.content_automaton.specs.Attribution.{IsAttributed, Noted, AreNoted}

-- a term accepts a name exactly where the name's symbol is listed for it
abbrev pub AreAccepted : NameTable → SymbolTable → List Accepts → List (List ℕ) → Type 0
AreAccepted t s terms accepted =
    (k : ℕ) (a : Accepts) → k < length terms → (name : ExpandedName) →
    list_any (λ m. m == symbol_of t s name) (slice_index_or accepted k []) ≡ accepts_name t (slice_index_or terms k a) name

-- what is kept for a symbol is attributed to its names
abbrev pub AreAttributed : NameTable → SymbolTable → List Accepts → List Attribution → Type 0
AreAttributed t s terms attributions =
    (name : ExpandedName) (x : Attribution) → IsAttributed t terms name (slice_index_or attributions (symbol_of t s name) x)

pub record IsListing (t : NameTable) (s : SymbolTable) (terms : List Accepts) (accepted : List (List ℕ)) (attributions : List Attribution) : Type 0 where
  pub count : length accepted ≡ length terms
  pub rises : All IsStrictlyIncreasing accepted
  pub below : All (All (λ n. n < count_of s)) accepted
  pub same : HasNoRepeats t.names → AreAccepted t s terms accepted
  pub attributed : HasNoRepeats t.names → AreAttributed t s terms attributions
  pub attributions_count : length attributions ≡ count_of s

-- ---- for proofs

-- these are the notes of the first terms
pub record AreNotesOf (t : NameTable) (s : SymbolTable) (terms : List Accepts) (i : ℕ) (attributions : List Attribution) : Type 0 where
  pub notes : List Noted
  pub terms_below : (x : Noted) → Contains notes x → x.term < i
  pub are : AreNoted notes attributions
  pub of : (k class : ℕ) (name : ExpandedName) →
      Contains notes (record { term = k; symbol = symbol_of t s name; class = class }) ↔ ((k < i) × ((a : Accepts) → Gives t (slice_index_or terms k a) name class))

-- the same of the first terms
pub record IsListedUpTo (t : NameTable) (s : SymbolTable) (terms : List Accepts) (i : ℕ) (accepted : List (List ℕ)) (attributions : List Attribution) : Type 0 where
  pub count : length accepted ≡ i
  pub rises : All IsStrictlyIncreasing accepted
  pub below : All (All (λ n. n < count_of s)) accepted
  pub same : HasNoRepeats t.names → (k : ℕ) (a : Accepts) → k < i → (name : ExpandedName) →
      list_any (λ m. m == symbol_of t s name) (slice_index_or accepted k []) ≡ accepts_name t (slice_index_or terms k a) name
  pub noted : HasNoRepeats t.names → AreNotesOf t s terms i attributions
  pub attributions_count : length attributions ≡ count_of s
