-- The symbols that a term accepts, each with the class of what the term gives.
use Rattle.std.specs.Prelude.{◌≡◌, ℕ, ◌+◌, ◌-◌, ◌<◌, ◌↔◌, ◌==◌, Bool, true, false, IsTrue, nat_lt, nat_eq, List, [], ◌∷◌, slice_index, Contains, if◌then◌else◌, length}
use Rattle.std.specs.HashSet.{HashSet, contains}
use Rattle.xs_names.specs.Names.{NameTable, space_of}
use Rattle.xs_names.specs.Numbering.{with_item}
use Rattle.xs_components.specs.Sets.{admits, has}
use Rattle.xs_components.specs.declared.namespace_constraint.NsConstraint.{NsConstraint}
use Rattle.xs_components.specs.declared.namespace_constraint.NsConstraint.TheVariants.{Any, Not, In}
use Rattle.content_automaton.specs.declared.symbol_terms.Given.{Given}
use Rattle.content_automaton.specs.declared.symbol_terms.Accepts.{Accepts}
use Rattle.content_automaton.specs.declared.rows.Entry.{Entry}
use Rattle.content_automaton.specs.Terms.{ExpandedName, name_at, Gives}
use Rattle.content_automaton.specs.Symbols.{SymbolTable, symbol_of}

-- a term gives a name a class exactly where its row has the name's symbol with that class
pub record IsRow (t : NameTable) (s : SymbolTable) (a : Accepts) (row : List Entry) : Type 0 where
  pub gives : (name : ExpandedName) (class : ℕ) → Contains row (record { symbol = symbol_of t s name; class = class }) ↔ Gives t a name class

-- ---- for proofs

-- the list with each of these, in order, where it was not there
abbrev pub with_all : List ℕ → List ℕ → List ℕ
with_all xs [] = xs
with_all xs (y ∷ ys) = with_all (with_item (λ a b. a == b) xs y) ys

-- a constraint that admits the namespaces that none names
abbrev pub is_open : NsConstraint → Bool
is_open Any = true
is_open (Not excluded) = true
is_open (In listed) = false

-- a wildcard accepts the names with this symbol
abbrev pub admits_symbol : NameTable → SymbolTable → NsConstraint → ℕ → Bool
admits_symbol t s namespaces n =
    if nat_lt n (length s.names) then admits namespaces (space_of t (slice_index s.names n))
    else (if nat_lt n (length s.names + length s.spaces) then admits namespaces (slice_index s.spaces (n - length s.names)) else is_open namespaces)

-- the set has the namespaces that the constraint lists, if it does
abbrev pub AreListed : {S : Type 0} → NsConstraint → HashSet ℕ S → Type 0
AreListed (In listed) set = (ns : ℕ) → contains nat_eq set ns ≡ has listed ns
AreListed _ set = Unit {0}

-- the symbol and the class of a name that is given
abbrev pub entry_of : NameTable → SymbolTable → Given → Entry
entry_of t s g = record { symbol = symbol_of t s (name_at t g.name); class = g.class }

-- the row has the symbols below a number that a wildcard of this class accepts
abbrev pub AreAdmitted : NameTable → SymbolTable → NsConstraint → ℕ → ℕ → List Entry → Type 0
AreAdmitted t s namespaces class bound row =
    (e : Entry) → Contains row e ↔ ((e.symbol < bound) × IsTrue (admits_symbol t s namespaces e.symbol) × (class ≡ e.class))

-- the list has the symbols of the row
abbrev pub AreSymbolsIn : List Entry → List ℕ → Type 0
AreSymbolsIn row list = (n : ℕ) → Contains list n ↔ ((class : ℕ) × Contains row (record { symbol = n; class = class }))
