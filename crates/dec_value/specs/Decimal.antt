-- The values of `decimal` (Datatypes 3.2.3): the numbers i / 10 ^ s with integers i and s, 0 <= s.
use Rattle.std.specs.Prelude.{◌≡◌, ◌≢◌, ℕ, ◌%◌, ◌^◌, ◌<◌, ◌≤◌, Bool, ◌||◌, nat_lt, nat_le, ℤ, pos, negsuc, ◌*ℤ◌, length, max, refl}
use Rattle.std.specs.declared.cmp.Ordering.TheVariants.{Less, Equal, Greater}
use Rattle.std.specs.Int.RustNames.{unsigned_abs}
use Rattle.std.specs.Int.Digits.{digits_of}
use Rattle.std.specs.declared.cmp.Ordering.{Ordering}
use Rattle.std.specs.Ordering.{int_cmp}

-- the number unscaled / 10 ^ scale
pub record Decimal : Type 0 where
  pub unscaled : ℤ
  pub scale : ℕ

-- a and b are one number, as fractions are: the products across are equal
abbrev pub IsSameNumber : Decimal → Decimal → Type 0
IsSameNumber a b = a.unscaled *ℤ pos (10 ^ b.scale) ≡ b.unscaled *ℤ pos (10 ^ a.scale)

-- a is the number b, and no form of b has a smaller scale
pub record IsLowestForm (a b : Decimal) : Type 0 where
  pub same : IsSameNumber a b
  pub least : (c : Decimal) → IsSameNumber c b → a.scale ≤ c.scale

-- the order of the numbers, by the products across
abbrev pub order_of : Decimal → Decimal → Ordering
order_of a b = int_cmp (a.unscaled *ℤ pos (10 ^ b.scale)) (b.unscaled *ℤ pos (10 ^ a.scale))

-- the number has more than 38 digits, or more than 38 of them behind the point
abbrev pub is_too_wide : Decimal → Bool
is_too_wide d = nat_le (10 ^ 38) (unsigned_abs d.unscaled) || nat_lt 38 d.scale

-- how many digits write a number; one digit writes 0
abbrev pub digit_count : ℕ → ℕ
digit_count n = max 1 (length (digits_of 10 n))

-- Datatypes 4.3.11: the digits of the integer, or of the fraction where these are more
abbrev pub total_digits_of : Decimal → ℕ
total_digits_of d = max (digit_count (unsigned_abs d.unscaled)) d.scale

-- Datatypes 4.3.11: a totalDigits of n admits the numbers i / 10 ^ s with |i| < 10 ^ n and s <= n
pub record IsWithinTotalDigits (n : ℕ) (d : Decimal) : Type 0 where
  pub magnitude : unsigned_abs d.unscaled < 10 ^ n
  pub scale : d.scale ≤ n

-- 0.5 before 0.51, -1.5 before -1.49, and 2 / 10 beside 20 / 100
half_first : order_of (record { unscaled = pos 5; scale = 1 }) (record { unscaled = pos 51; scale = 2 }) ≡ Less
half_first = refl

below_zero : order_of (record { unscaled = negsuc 148; scale = 2 }) (record { unscaled = negsuc 14; scale = 1 }) ≡ Greater
below_zero = refl

one_number : order_of (record { unscaled = pos 2; scale = 1 }) (record { unscaled = pos 20; scale = 2 }) ≡ Equal
one_number = refl

four_digits : total_digits_of (record { unscaled = negsuc 1233; scale = 2 }) ≡ 4
four_digits = refl

-- what every kept value has: 38 digits at most, a scale of 38 at most, and no common ten
pub record IsKept (d : Decimal) : Type 0 where
  pub narrow : unsigned_abs d.unscaled < 10 ^ 38
  pub shallow : d.scale ≤ 38
  pub reduced : 0 < d.scale → unsigned_abs d.unscaled % 10 ≢ 0
