-- What a text reads to as a literal of a built-in type: Datatypes 3.2, 3.3 and 4.3.6.
use Rattle.std.specs.Prelude.{ℕ, List, [], ◌∷◌, ◌++◌, Option, Some, None, Result, Ok, Err}
use Rattle.xs_codes.specs.declared.builtin.Builtin.{Builtin}
use Rattle.xs_names.specs.WhiteSpace.{normalized, items}
use Rattle.simple_values.specs.declared.fault.ValueFault.{ValueFault}
use Rattle.simple_values.specs.declared.fault.ValueFault.TheVariants.{NotLexical}
use Rattle.simple_values.specs.declared.atom.Atom.{Atom}
use Rattle.simple_values.specs.declared.atoms.TypedAtom.{TypedAtom}
use Rattle.simple_values.specs.declared.value.Value.{Value}
use Rattle.simple_values.specs.declared.value.Value.TheVariants as values
use Rattle.simple_values.specs.Grammar.{grammar_of, item_type, white_space_of}
use Rattle.simple_values.specs.Literals.{atom_value}

abbrev pub typed : Builtin → Result Atom ValueFault → Result Value ValueFault
typed kind (Ok atom) = Ok (values.Atom kind atom)
typed kind (Err fault) = Err fault

-- a literal of an atomic type
abbrev pub atomic_value : Builtin → List (List ℕ × ℕ) → List ℕ → Result Value ValueFault
atomic_value kind scope text = typed kind (atom_value (grammar_of kind) scope text)

-- an item in front of others: the first fault counts
abbrev pub in_front : Builtin → Result Atom ValueFault → Result (List TypedAtom) ValueFault → Result (List TypedAtom) ValueFault
in_front item (Err fault) more = Err fault
in_front item (Ok atom) (Err fault) = Err fault
in_front item (Ok atom) (Ok atoms) = Ok (record { builtin = item; atom = atom } ∷ atoms)

abbrev pub item_values : Builtin → List (List ℕ × ℕ) → List (List ℕ) → Result (List TypedAtom) ValueFault
item_values item scope [] = Ok []
item_values item scope (text ∷ texts) = in_front item (atom_value (grammar_of item) scope text) (item_values item scope texts)

abbrev pub listed : Result (List TypedAtom) ValueFault → Result Value ValueFault
listed (Ok atoms) = Ok (values.List atoms)
listed (Err fault) = Err fault

-- 3.3.5 and 3.3.10: a list has at least one item
abbrev pub some_items : Builtin → List (List ℕ × ℕ) → List (List ℕ) → Result Value ValueFault
some_items item scope [] = Err NotLexical
some_items item scope (text ∷ texts) = listed (item_values item scope (text ∷ texts))

abbrev pub list_value : Builtin → List (List ℕ × ℕ) → List ℕ → Result Value ValueFault
list_value item scope text = some_items item scope (items text)

abbrev pub by_item : Option Builtin → Builtin → List (List ℕ × ℕ) → List ℕ → Result Value ValueFault
by_item None kind scope text = atomic_value kind scope text
by_item (Some item) kind scope text = list_value item scope text

-- what a text reads to as a literal of the type, its white space being treated
abbrev pub literal_value : Builtin → List (List ℕ × ℕ) → List ℕ → Result Value ValueFault
literal_value kind scope text = by_item (item_type kind) kind scope text

-- 4.3.6: white space is treated as the type asks, and then a literal is read
abbrev pub value_of : Builtin → List (List ℕ × ℕ) → List ℕ → Result Value ValueFault
value_of kind scope text = literal_value kind scope (normalized (white_space_of kind) text)

-- items in front of those that are still to come
abbrev pub behind : List TypedAtom → Result (List TypedAtom) ValueFault → Result (List TypedAtom) ValueFault
behind atoms (Err fault) = Err fault
behind atoms (Ok more) = Ok (atoms ++ more)
