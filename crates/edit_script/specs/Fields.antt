-- The fields of a line.
use Rattle.std.specs.Prelude.{ℕ, List, Bool, ◌==◌, ◌&&◌, nat_le, nat_lt, length, Option, Some, None, Result, Ok, Err, if◌then◌else◌}
use Rattle.std.specs.Char.{is_ascii_digit}
use Rattle.std.specs.Str.Parse.{digits_value}
use Rattle.std.specs.List.{before_first, after_first, position_or_len, list_all, list_any}
use Rattle.edit_script.specs.declared.command.ScriptFault.{ScriptFault}
use Rattle.edit_script.specs.declared.command.ScriptFault.TheVariants.{WrongFields, BadNumber}

infixl 10 ◌>>=◌
abbrev pub ◌>>=◌ : {A B : Type 0} → Result A ScriptFault → (A → Result B ScriptFault) → Result B ScriptFault
(Ok x) >>= f = f x
(Err e) >>= f = Err e

abbrev pub is_space : ℕ → Bool
is_space b = b == 32

-- the parts before and behind the first space, None where there is none
abbrev pub split : List ℕ → Option (List ℕ × List ℕ)
split text = if nat_lt (position_or_len is_space text) (length text) then Some (before_first is_space text, after_first is_space text) else None

-- what has to be there
abbrev pub needed : {A : Type 0} → Option A → Result A ScriptFault
needed None = Err WrongFields
needed (Some x) = Ok x

-- the last field, which has no space
abbrev pub last : List ℕ → Result (List ℕ) ScriptFault
last field = if list_any is_space field then Err WrongFields else Ok field

-- decimal digits, at least one, of a number up to this one
abbrev pub is_number_to : ℕ → List ℕ → Bool
is_number_to most field = nat_lt 0 (length field) && (list_all is_ascii_digit field && nat_le (digits_value 10 field) most)

abbrev pub number_to : ℕ → List ℕ → Result ℕ ScriptFault
number_to most field = if is_number_to most field then Ok (digits_value 10 field) else Err BadNumber

-- a number of a node, a place or an author
abbrev pub number : List ℕ → Result ℕ ScriptFault
number field = number_to 4294967295 field

abbrev pub revision : List ℕ → Result ℕ ScriptFault
revision field = number_to 18446744073709551615 field
