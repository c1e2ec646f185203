-- Literals of built-in types, whose facets are white space and the bounds of integers: Datatypes 4.1.4.
use Rattle.std.specs.Prelude.{◌≡◌, ℕ, List, Option, None, Some, Result, Ok, Err}
use Rattle.xs_codes.specs.declared.builtin.Builtin.{Builtin}
use Rattle.xs_codes.specs.declared.code.Code.{Code}
use Rattle.simple_values.specs.declared.value.Value.{Value}
use Rattle.simple_values.specs.Reading.{literal_value}
use Rattle.facets.specs.declared.atomic.Accepted.{Accepted}
use Rattle.facets.specs.Atomic.{has_too_many, IsReadUnless, IsAtomicRead}
use Rattle.facets.specs.BuiltIn.{facets_of}

abbrev pub value_of : Result Accepted Code → Result Value Code
value_of (Ok accepted) = Ok accepted.value
value_of (Err code) = Err code

abbrev pub value_unless : Value → Option Code → Result Value Code
value_unless value None = Ok value
value_unless value (Some code) = Err code

-- what a text comes to whose white space is treated
abbrev pub IsTreatedRead : Builtin → List (List ℕ × ℕ) → List ℕ → Result Value Code → Type 0
IsTreatedRead kind scope text outcome =
    (answer : Result Accepted Code) × IsReadUnless (has_too_many kind text) (facets_of kind) text (literal_value kind scope text) answer × (outcome ≡ value_of answer)

-- the value of a text as a literal of the type by its facets, or the code of why it has none
abbrev pub IsBuiltinRead : Builtin → List (List ℕ × ℕ) → List ℕ → Result Value Code → Type 0
IsBuiltinRead kind scope text outcome = (answer : Result Accepted Code) × IsAtomicRead kind (facets_of kind) scope text answer × (outcome ≡ value_of answer)
