-- The literals of the eight types of moments, taken apart into their fields: Datatypes 3.2.7 to 3.2.14.
-- A reader refuses a text that is no literal whatever its day, and takes any two digits as the day.
use Rattle.std.specs.Prelude.{ℕ, ◌+◌, ◌*◌, ◌&&◌, ◌||◌, ◌==◌, not, Bool, true, false, List, [], ◌∷◌, length, Option, Some, None, option_map, if◌then◌else◌, nat_lt, nat_le, ℤ, pos, neg_ℤ}
use Rattle.jiff_core.specs.Calendar.{is_leap_year}
use Rattle.time_value.specs.declared.literal.Year.{Year}
use Rattle.time_value.specs.declared.literal.LiteralDate.{LiteralDate}
use Rattle.time_value.specs.declared.literal.LiteralTime.{LiteralTime}
use Rattle.time_value.specs.declared.literal.Literal.{Literal}
use Rattle.time_value.specs.declared.literal.Shape.{Shape}
use Rattle.time_value.specs.declared.literal.MomentKind.{MomentKind}
use Rattle.time_value.specs.declared.literal.MomentKind.TheVariants as kinds
use Rattle.time_value.specs.Digits.{Front, ◌>>=◌, after, minus_at, two_digits, digits_at, number, fraction_at}

-- the text begins with this character
abbrev pub begins_with : ℕ → List ℕ → Bool
begins_with character [] = false
begins_with character (c ∷ rest) = c == character

-- 3.2.7.1: four digits that are not all zero, or more without a leading zero
abbrev pub is_year : List ℕ → Bool
is_year digits =
    if length digits == 4 then not (number digits == 0)
    else nat_lt 4 (length digits) && not (begins_with 48 digits)

-- the year of a sign and digits. Within the limits are four digits without a sign; past them the
-- sign is left out when leap years are told
abbrev pub year_value : Bool → List ℕ → Year
year_value negative digits = record {
  leap = is_leap_year (pos (number digits));
  within = if negative || nat_lt 4 (length digits) then None else Some (number digits);
}

unfoldable pub year_of : Bool → List ℕ → Option Year
year_of negative digits = if is_year digits then Some (year_value negative digits) else None

-- CCYY, with a sign and more digits where a year past the limits needs them
unfoldable pub year_at : List ℕ → Front Year
year_at text = do
  let sign = minus_at text
  let digits = digits_at sign.1
  year ← year_of sign.0 digits.0
  Some (year, digits.1)

-- MM, from 01 to 12
unfoldable pub month_at : List ℕ → Front ℕ
month_at text = do
  month ← two_digits text
  if nat_le 1 month.0 && nat_le month.0 12 then Some month else None

-- two digits below 60, as minutes and seconds are
unfoldable pub below_sixty : List ℕ → Front ℕ
below_sixty text = do
  count ← two_digits text
  if nat_lt count.0 60 then Some count else None

-- the hours are below 24, or it is 24:00:00 and no fraction follows
abbrev pub is_hour : ℕ → ℕ → ℕ → List ℕ → Bool
is_hour hour minute second rest =
    nat_lt hour 24 || ((hour == 24) && (minute == 0) && (second == 0) && not (begins_with 46 rest))

-- hh:mm:ss(.s+)?
unfoldable pub time_at : List ℕ → Front LiteralTime
time_at text = do
  hour ← two_digits text
  past_hour ← after 58 hour.1
  minute ← below_sixty past_hour
  past_minute ← after 58 minute.1
  second ← below_sixty past_minute
  fraction ← fraction_at second.1
  if is_hour hour.0 minute.0 second.0 second.1
      then Some (record { hour = hour.0; minute = minute.0; second = second.0; fraction = fraction.0 }, fraction.1)
      else None

-- 3.2.7.3: hh:mm up to 14:00 and nothing after it, in minutes
unfoldable pub zone_minutes : List ℕ → Option ℕ
zone_minutes text = do
  hours ← two_digits text
  past_hours ← after 58 hours.1
  minutes ← below_sixty past_hours
  if (length minutes.1 == 0) && nat_le (hours.0 * 60 + minutes.0) 840
      then Some (hours.0 * 60 + minutes.0)
      else None

-- no zone, Z, +hh:mm or -hh:mm, up to the end of the text: minutes ahead of UTC
unfoldable pub zone_of : List ℕ → Option (Option ℤ)
zone_of [] = Some None
zone_of (c ∷ rest) =
    if c == 90 then (if length rest == 0 then Some (Some (pos 0)) else None)
    else (if c == 43 then option_map (λ minutes. Some (pos minutes)) (zone_minutes rest)
    else (if c == 45 then option_map (λ minutes. Some (neg_ℤ (pos minutes))) (zone_minutes rest)
    else None))

-- Missing fields are those of 1972-01-01T00:00:00.
abbrev pub year_1972 : Year
year_1972 = record { leap = true; within = Some 1972 }

abbrev pub midnight : LiteralTime
midnight = record { hour = 0; minute = 0; second = 0; fraction = Some 0 }

-- a date, a time, and the zone up to the end of the text
unfoldable pub in_zone : LiteralDate → LiteralTime → List ℕ → Option Literal
in_zone date time rest = do
  zone ← zone_of rest
  Some (record { date = date; time = time; zone = zone })

-- 24:00:00 alone is 00:00:00
abbrev pub first_midnight : LiteralTime → LiteralTime
first_midnight time = if time.hour == 24 then midnight else time

-- which fields the literals of a type write: 3.2.7 to 3.2.14
abbrev pub shape_of : MomentKind → Shape
shape_of kinds.DateTime = record { year = true; month = true; day = true; time = true }
shape_of kinds.Date = record { year = true; month = true; day = true; time = false }
shape_of kinds.Time = record { year = false; month = false; day = false; time = true }
shape_of kinds.YearMonth = record { year = true; month = true; day = false; time = false }
shape_of kinds.Year = record { year = true; month = false; day = false; time = false }
shape_of kinds.MonthDay = record { year = false; month = true; day = true; time = false }
shape_of kinds.Day = record { year = false; month = false; day = true; time = false }
shape_of kinds.Month = record { year = false; month = true; day = false; time = false }

-- CCYY, or a dash in its place before a month or a day
unfoldable pub year_part : Bool → Bool → List ℕ → Front Year
year_part is_written is_before text =
    if is_written then year_at text
    else (if is_before then (after 45 text >>= λ rest. Some (year_1972, rest)) else Some (year_1972, text))

-- -MM, or a dash in its place before a day
unfoldable pub month_part : Bool → Bool → List ℕ → Front ℕ
month_part is_written is_before text =
    if is_written then (after 45 text >>= λ rest. month_at rest)
    else (if is_before then (after 45 text >>= λ rest. Some (1, rest)) else Some (1, text))

-- -DD
unfoldable pub day_part : Bool → List ℕ → Front ℕ
day_part is_written text = if is_written then (after 45 text >>= λ rest. two_digits rest) else Some (1, text)

-- hh:mm:ss(.s+)?, behind a T where a date stands before it
unfoldable pub time_part : Bool → Bool → List ℕ → Front LiteralTime
time_part is_written is_behind text =
    if is_written then
    (if is_behind then (after 84 text >>= λ rest. time_at rest)
    else (time_at text >>= λ time. Some (first_midnight time.0, time.1)))
    else Some (midnight, text)

-- the fields of a text as a literal that writes these, and nothing else
unfoldable pub literal_at : Shape → List ℕ → Option Literal
literal_at shape text = do
  year ← year_part shape.year (shape.month || shape.day) text
  month ← month_part shape.month shape.day year.1
  day ← day_part shape.day month.1
  time ← time_part shape.time shape.day day.1
  in_zone (record { year = year.0; month = month.0; day = day.0 }) time.0 time.1

-- the fields of a text as a literal of this type
abbrev pub literal : MomentKind → List ℕ → Option Literal
literal kind = literal_at (shape_of kind)
