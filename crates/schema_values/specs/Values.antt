-- Booleans and numbers in schema documents.
use Rattle.std.specs.Prelude.{◌≡◌, ℕ, ◌+◌, ◌-◌, ◌*◌, Bool, true, false, ◌&&◌, ◌||◌, nat_le, nat_lt, List, [], ◌∷◌, Option, Some, None, if◌then◌else◌, codes, refl}
use Rattle.std.specs.List.{list_all}
use Rattle.std.specs.Str.{bytes_eq}

-- the boolean of a text (Datatypes 3.2.2.1)
abbrev pub boolean_of : List ℕ → Option Bool
boolean_of text =
    if bytes_eq text (codes "true") || bytes_eq text (codes "1") then Some true
    else (if bytes_eq text (codes "false") || bytes_eq text (codes "0") then Some false else None)

abbrev pub is_digit : ℕ → Bool
is_digit b = nat_le 48 b && nat_le b 57

-- digits, at least one
abbrev pub is_digits : List ℕ → Bool
is_digits [] = false
is_digits (b ∷ bs) = list_all is_digit (b ∷ bs)

-- the number of these digits behind those of another
abbrev pub number_from : ℕ → List ℕ → ℕ
number_from front [] = front
number_from front (b ∷ bs) = number_from (front * 10 + (b - 48)) bs

-- the number of a text of digits
abbrev pub digits_of : List ℕ → Option ℕ
digits_of text = if is_digits text then Some (number_from 0 text) else None

abbrev pub is_positive : Option ℕ → Bool
is_positive None = false
is_positive (Some n) = nat_lt 0 n

-- for example
pub example-digits : digits_of (codes "010") ≡ Some 10
example-digits = refl

pub example-sign : digits_of (codes "+1") ≡ None
example-sign = refl
