-- The literals of `decimal` (Datatypes 3.2.3.1), by the bytes of their text: an optional sign, then decimal
-- digits with at most one point among, before or behind them, and at least one digit.
use Rattle.std.specs.Prelude.{◌≡◌, ℕ, zero, suc, ◌/◌, ◌%◌, ◌==◌, not, Bool, false, ◌&&◌, ◌||◌, if◌then◌else◌, List, [], ◌∷◌, ◌++◌, length, ℤ, pos, negsuc, neg_ℤ, Result, Ok, Err, codes, refl}
use Rattle.std.specs.List.{before_first, after_first, list_all}
use Rattle.std.specs.Char.{is_ascii_digit}
use Rattle.std.specs.Str.Parse.{digits_value}
use Rattle.dec_value.specs.Decimal.{Decimal, is_too_wide}
use Rattle.dec_value.specs.declared.decimal.DecFault.{DecFault}
use Rattle.dec_value.specs.declared.decimal.DecFault.TheVariants.{NotDecimal, TooWide}

-- '-' stands in front
abbrev pub is_negative : List ℕ → Bool
is_negative [] = false
is_negative (b ∷ bs) = b == 45

-- the text behind its sign, '+' or '-', if it has one
abbrev pub unsigned : List ℕ → List ℕ
unsigned [] = []
unsigned (b ∷ bs) = if b == 43 || b == 45 then bs else b ∷ bs

abbrev pub is_point : ℕ → Bool
is_point b = b == 46

-- what stands before the first point, and what stands behind it: nothing where there is no point
abbrev pub whole_part : List ℕ → List ℕ
whole_part text = before_first is_point (unsigned text)

abbrev pub fraction_part : List ℕ → List ℕ
fraction_part text = after_first is_point (unsigned text)

-- both parts are digits alone, so there is no second point, and one of them has a digit
abbrev pub are_digits : List ℕ → List ℕ → Bool
are_digits whole fraction = (list_all is_ascii_digit whole && list_all is_ascii_digit fraction) && not (length whole == 0 && length fraction == 0)

abbrev pub is_literal : List ℕ → Bool
is_literal text = are_digits (whole_part text) (fraction_part text)

-- the number that decimal digits write
abbrev pub number : List ℕ → ℕ
number digits = digits_value 10 digits

abbrev pub signed : Bool → ℕ → ℤ
signed negative n = if negative then neg_ℤ (pos n) else pos n

-- the number as it is written: that of all digits, over ten to the number of fraction digits
abbrev pub written : List ℕ → Decimal
written text = record {
  unscaled = signed (is_negative text) (number (whole_part text ++ fraction_part text));
  scale = length (fraction_part text);
}

-- n / 10 ^ s with the least s: a common ten is taken from both
pub record Fraction : Type 0 where
  pub over : ℕ
  pub scale : ℕ

abbrev pub lowest : ℕ → ℕ → Fraction
lowest n zero = record { over = n; scale = 0 }
lowest n (suc s) = if n % 10 == 0 then lowest (n / 10) s else record { over = n; scale = suc s }

-- the value that a literal reads to
abbrev pub value_of : List ℕ → Decimal
value_of text = let form = lowest (number (whole_part text ++ fraction_part text)) (length (fraction_part text)) in
    record { unscaled = signed (is_negative text) form.over; scale = form.scale }

-- the value, unless it is too wide
abbrev pub narrow : Decimal → Result Decimal DecFault
narrow d = if is_too_wide d then Err TooWide else Ok d

-- what a text reads to
abbrev pub decimal_of : List ℕ → Result Decimal DecFault
decimal_of text = if is_literal text then narrow (value_of text) else Err NotDecimal

-- leading zeros and those that end the fraction do not count
hundred_thousand : decimal_of (codes "+0100000.00") ≡ Ok (record { unscaled = pos 100000; scale = 0 })
hundred_thousand = refl

below_zero : decimal_of (codes "-1.230") ≡ Ok (record { unscaled = negsuc 122; scale = 2 })
below_zero = refl

lone_point : decimal_of (codes "-.") ≡ Err NotDecimal
lone_point = refl

two_points : decimal_of (codes "1.2.3") ≡ Err NotDecimal
two_points = refl

thirty_nine : decimal_of (codes "100000000000000000000000000000000000000") ≡ Err TooWide
thirty_nine = refl
