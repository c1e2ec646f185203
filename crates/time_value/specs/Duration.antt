-- The literals of durations, taken apart into their parts: Datatypes 3.2.6.1. They are written
-- `-?PnYnMnDTnHnMnS`, where a part may be missing, and T where no part follows it.
use Rattle.std.specs.Prelude.{ℕ, ◌==◌, Bool, List, [], ◌∷◌, length, Option, Some, None, if◌then◌else◌}
use Rattle.time_value.specs.declared.duration.Seconds.{Seconds}
use Rattle.time_value.specs.declared.duration.TimeParts.{TimeParts}
use Rattle.time_value.specs.declared.duration.DurationLiteral.{DurationLiteral}
use Rattle.time_value.specs.Digits.{Front, ◌>>=◌, after, minus_at, digits_at, fraction_at, count_of}

-- a number of at least one digit and its letter: the number, where no limit is below it
unfoldable pub part_at : ℕ → List ℕ → Front (Option ℕ)
part_at letter text = do
  let digits = digits_at text
  rest ← after letter digits.1
  if length digits.0 == 0 then None else Some (count_of digits.0, rest)

-- the part, or 0 where it is missing
abbrev pub or_zero : List ℕ → Front (Option ℕ) → Option ℕ × List ℕ
or_zero text None = (Some 0, text)
or_zero text (Some part) = part

unfoldable pub part_or_zero : ℕ → List ℕ → Option ℕ × List ℕ
part_or_zero letter text = or_zero text (part_at letter text)

-- the seconds, which may have a fraction: n or n.n, and the letter S
unfoldable pub seconds_at : List ℕ → Front Seconds
seconds_at text = do
  let digits = digits_at text
  fraction ← fraction_at digits.1
  rest ← after 83 fraction.1
  if length digits.0 == 0 then None
      else Some (record { whole = count_of digits.0; fraction = fraction.0 }, rest)

abbrev pub or_no_seconds : List ℕ → Front Seconds → Seconds × List ℕ
or_no_seconds text None = (record { whole = Some 0; fraction = Some 0 }, text)
or_no_seconds text (Some seconds) = seconds

unfoldable pub seconds_or_zero : List ℕ → Seconds × List ℕ
seconds_or_zero text = or_no_seconds text (seconds_at text)

-- what follows T: at least one part, and nothing else
unfoldable pub time_parts : List ℕ → Option TimeParts
time_parts text = do
  let hours = part_or_zero 72 text
  let minutes = part_or_zero 77 hours.1
  let seconds = seconds_or_zero minutes.1
  if length text == 0 then None
      else (if length seconds.1 == 0
      then Some (record { hours = hours.0; minutes = minutes.0; seconds = seconds.0 })
      else None)

-- the end of the text, or T and what follows it
unfoldable pub time_of : List ℕ → Option TimeParts
time_of [] = Some (record { hours = Some 0; minutes = Some 0; seconds = record { whole = Some 0; fraction = Some 0 } })
time_of (c ∷ rest) = if c == 84 then time_parts rest else None

-- what follows P: at least one part, behind T or not
unfoldable pub parts_of : Bool → List ℕ → Option DurationLiteral
parts_of negative text = do
  let years = part_or_zero 89 text
  let months = part_or_zero 77 years.1
  let days = part_or_zero 68 months.1
  time ← time_of days.1
  if length text == 0 then None
      else Some (record { negative = negative; years = years.0; months = months.0; days = days.0; time = time })

-- a sign if it is negative, P, and the parts
unfoldable pub duration : List ℕ → Option DurationLiteral
duration text = do
  let sign = minus_at text
  parts ← after 80 sign.1
  parts_of sign.0 parts
