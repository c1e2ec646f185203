-- The pieces of literals: what stands at the front of a text, and the text after it.
use Rattle.std.specs.Prelude.{ℕ, ◌-◌, ◌*◌, ◌^◌, ◌&&◌, ◌==◌, Bool, true, false, List, [], ◌∷◌, length, take, drop, All, Option, Some, None, option_map, if◌then◌else◌, nat_le}
use Rattle.std.specs.List.{prefix_len, list_all}
use Rattle.std.specs.Char.{is_ascii_digit, IsAsciiDigit}
use Rattle.std.specs.Str.Parse.{digits_value}
use Rattle.std.specs.Borrow.{Bor}

-- a piece and the text after it, where the piece stands at the front
abbrev pub Front : Type 0 → Type 0
Front A = Option (A × List ℕ)

-- what a reader found, with the text behind the reference
abbrev pub seen : {A : Type 0} → Option (A × Bor (List ℕ)) → Front A
seen found = option_map (λ p. (p.0, p.1.now)) found

-- the same, where the piece is always there
abbrev pub seen_always : {A : Type 0} → A × Bor (List ℕ) → A × List ℕ
seen_always found = (found.0, found.1.now)

-- the same, where only the text after the piece is of use
abbrev pub seen_rest : Option (Bor (List ℕ)) → Option (List ℕ)
seen_rest rest = option_map (λ s. s.now) rest

infixl 10 ◌>>=◌
abbrev pub ◌>>=◌ : {A B : Type 0} → Option A → (A → Option B) → Option B
(Some x) >>= f = f x
None >>= f = None

-- the text after this character
unfoldable pub after : ℕ → List ℕ → Option (List ℕ)
after character [] = None
after character (c ∷ rest) = if c == character then Some rest else None

-- whether a minus sign stands at the front, and the text after it
unfoldable pub minus_at : List ℕ → Bool × List ℕ
minus_at [] = (false, [])
minus_at (c ∷ rest) = if c == 45 then (true, rest) else (false, c ∷ rest)

-- the number that decimal digits write
abbrev pub number : List ℕ → ℕ
number digits = digits_value 10 digits

-- two digits
unfoldable pub two_digits : List ℕ → Front ℕ
two_digits (tens ∷ ones ∷ rest) =
    if is_ascii_digit tens && is_ascii_digit ones
    then Some (number (tens ∷ ones ∷ []), rest)
    else None
two_digits _ = None

-- all the digits at the front
unfoldable pub digits_at : List ℕ → List ℕ × List ℕ
digits_at text = let count = prefix_len is_ascii_digit text in (take count text, drop count text)

abbrev pub AreDigits : List ℕ → Type 0
AreDigits = All IsAsciiDigit

-- at most nine digits behind a point, as nanoseconds
unfoldable pub decimal_places : List ℕ → ℕ
decimal_places digits = number digits * 10 ^ (9 - length digits)

-- the digits behind a point as nanoseconds, and none where there is more to them than nine places:
-- past the ninth digit there are zeros alone
unfoldable pub nanoseconds : List ℕ → Option ℕ
nanoseconds digits =
    if list_all (λ digit. digit == 48) (drop 9 digits) then Some (decimal_places (take 9 digits)) else None

-- at least one digit behind a point: nanoseconds, where nine places hold them
abbrev pub nanoseconds_of : List ℕ × List ℕ → Front (Option ℕ)
nanoseconds_of ([], rest) = None
nanoseconds_of (digit ∷ digits, rest) = Some (nanoseconds (digit ∷ digits), rest)

-- a point and at least one digit, if a point stands at the front
unfoldable pub fraction_at : List ℕ → Front (Option ℕ)
fraction_at [] = Some (Some 0, [])
fraction_at (c ∷ rest) = if c == 46 then nanoseconds_of (digits_at rest) else Some (Some 0, c ∷ rest)

-- the number that digits write, where it is at most 126,230,400,000: no part of a duration within the
-- limits is above that
unfoldable pub count_of : List ℕ → Option ℕ
count_of digits = if nat_le (number digits) 126_230_400_000 then Some (number digits) else None
