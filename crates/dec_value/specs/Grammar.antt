-- The literals of `decimal` as the standard builds them up (Datatypes 3.2.3.1), apart from the functions of `Literal`,
-- which take a text apart, and what a text reads to by these alone.
use Rattle.std.specs.Prelude.{◌≡◌, ℕ, Bool, true, false, List, [], ◌∷◌, ◌++◌, length, Option, Some, None, Result, Ok, Err, IsTrue}
use Rattle.dec_value.specs.Decimal.{Decimal, IsLowestForm, is_too_wide}
use Rattle.dec_value.specs.Literal.{are_digits, number, signed}
use Rattle.dec_value.specs.declared.decimal.DecFault.{DecFault}
use Rattle.dec_value.specs.declared.decimal.DecFault.TheVariants.{NotDecimal, TooWide}

-- an optional leading sign
pub data Sign : Type 0 where
  absent : Sign
  plus : Sign
  minus : Sign

-- digits, and behind them perhaps a point, which digits may follow
pub record Numeral : Type 0 where
  pub sign : Sign
  pub whole : List ℕ
  pub fraction : Option (List ℕ)

abbrev pub sign_text : Sign → List ℕ
sign_text absent = []
sign_text plus = 43 ∷ []
sign_text minus = 45 ∷ []

abbrev pub fraction_text : Option (List ℕ) → List ℕ
fraction_text None = []
fraction_text (Some ds) = 46 ∷ ds

abbrev pub fraction_digits : Option (List ℕ) → List ℕ
fraction_digits None = []
fraction_digits (Some ds) = ds

-- how a numeral is written
abbrev pub numeral_text : Numeral → List ℕ
numeral_text n = sign_text n.sign ++ (n.whole ++ fraction_text n.fraction)

abbrev pub is_minus : Sign → Bool
is_minus absent = false
is_minus plus = false
is_minus minus = true

-- the number that it stands for: that of all its digits, over ten to the number of those behind the point
abbrev pub numeral_number : Numeral → Decimal
numeral_number n = record {
  unscaled = signed (is_minus n.sign) (number (n.whole ++ fraction_digits n.fraction));
  scale = length (fraction_digits n.fraction);
}

-- the text is this numeral, and its digits are decimal digits, at least one
pub record IsWritten (text : List ℕ) (n : Numeral) : Type 0 where
  pub digits : IsTrue (are_digits n.whole (fraction_digits n.fraction))
  pub written : text ≡ numeral_text n

-- A literal reads to its number in lowest form, unless that is too wide; any other text is refused
abbrev pub Reads : List ℕ → Result Decimal DecFault → Type 0
Reads text (Ok d) = (n : Numeral) × IsWritten text n × IsLowestForm d (numeral_number n) × (is_too_wide d ≡ false)
Reads text (Err TooWide) = (n : Numeral) × IsWritten text n × ((d : Decimal) → IsLowestForm d (numeral_number n) → is_too_wide d ≡ true)
Reads text (Err NotDecimal) = (n : Numeral) → ¬ IsWritten text n
