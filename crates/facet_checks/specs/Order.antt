-- The order of values where it is decided: Datatypes 3.2 and 4.3.7 to 4.3.10.
use Rattle.std.specs.Prelude.{Bool, true, false, ◌||◌, Option, Some, None}
use Rattle.simple_values.specs.declared.value.Value.{Value}
use Rattle.simple_values.specs.Same.{same, less}

abbrev pub is_decided : Option Bool → Bool
is_decided (Some true) = true
is_decided (Some false) = false
is_decided None = false

-- less, where that is decided
abbrev pub is_below : Value → Value → Bool
is_below a b = is_decided (less a b)

-- less or the same
abbrev pub is_at_most : Value → Value → Bool
is_at_most a b = is_below a b || same a b
