-- Numbers in words.
use Rattle.std.specs.Prelude.{ℕ, List, Bool, ◌&&◌, nat_le, nat_lt, length, Option, Some, None, if◌then◌else◌}
use Rattle.std.specs.Char.{is_ascii_digit}
use Rattle.std.specs.Str.Parse.{digits_value}
use Rattle.std.specs.List.{list_all}

-- decimal digits, 1 to 20, of a number up to 18,446,744,073,709,551,615
abbrev pub is_number : List ℕ → Bool
is_number text =
    nat_lt 0 (length text) && (nat_le (length text) 20 && (list_all is_ascii_digit text && nat_le (digits_value 10 text) 18446744073709551615))

abbrev pub number : List ℕ → Option ℕ
number text = if is_number text then Some (digits_value 10 text) else None

abbrev pub kept_between : ℕ → ℕ → Option ℕ → Option ℕ
kept_between least most None = None
kept_between least most (Some n) = if nat_le least n && nat_le n most then Some n else None

-- a number from the least to the most
abbrev pub between : ℕ → ℕ → List ℕ → Option ℕ
between least most text = kept_between least most (number text)
