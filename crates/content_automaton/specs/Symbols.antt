-- The symbols of a content model: the names that its element terms accept, the namespaces named by its wildcards, and one more.
use Rattle.std.specs.Prelude.{ℕ, suc, ◌+◌, ◌<◌, ◌↔◌, ◌==◌, List, Option, Some, None, map, length, Contains, All}
use Rattle.xs_names.specs.Names.{NameTable, same_name}
use Rattle.xs_names.specs.Numbering.{number_of, HasNoRepeats}
use Rattle.content_automaton.specs.declared.symbol_terms.Accepts.{Accepts}
use Rattle.content_automaton.specs.Terms.{ExpandedName, name_at, names_of, spaces_of}

-- the names with a symbol of their own, by number, and the namespaces with one
pub record SymbolTable : Type 0 where
  pub names : List ℕ
  pub spaces : List ℕ

-- some element term accepts the name of this number
abbrev pub IsNamed : List Accepts → ℕ → Type 0
IsNamed terms n = (a : Accepts) × Contains terms a × Contains (names_of a) n

-- some wildcard names the namespace
abbrev pub IsSpaceNamed : List Accepts → ℕ → Type 0
IsSpaceNamed terms ns = (a : Accepts) × Contains terms a × Contains (spaces_of a) ns

-- these are the symbols of the terms, each once, beside the one more
pub record AreSymbolsOf (terms : List Accepts) (s : SymbolTable) : Type 0 where
  pub names : (n : ℕ) → Contains s.names n ↔ IsNamed terms n
  pub spaces : (ns : ℕ) → Contains s.spaces ns ↔ IsSpaceNamed terms ns
  pub names_once : HasNoRepeats s.names
  pub spaces_once : HasNoRepeats s.spaces

abbrev pub count_of : SymbolTable → ℕ
count_of s = suc (length s.names + length s.spaces)

-- a symbol: the name's own, else the namespace's, which come after those of the names, else the one more
abbrev pub symbol_among : Option ℕ → Option ℕ → ℕ → ℕ → ℕ
symbol_among (Some own) space names spaces = own
symbol_among None (Some space) names spaces = names + space
symbol_among None None names spaces = names + spaces

-- the symbol of a name
abbrev pub symbol_of : NameTable → SymbolTable → ExpandedName → ℕ
symbol_of t s name =
    symbol_among (number_of same_name (map (name_at t) s.names) name) (number_of (λ a b. a == b) s.spaces name.0) (length s.names) (length s.spaces)

-- the table has names of these numbers
abbrev pub AreNamesOf : NameTable → List ℕ → Type 0
AreNamesOf t names = All (λ n. n < length t.names) names
