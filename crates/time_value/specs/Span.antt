-- What a literal of a duration reads to, and the order of durations.
use Rattle.std.specs.Prelude.{ℕ, ◌+◌, ◌*◌, ◌&&◌, Bool, List, Option, Some, None, Result, Ok, Err, if◌then◌else◌, nat_le, ℤ, pos, neg_ℤ, ◌+ℤ◌, ◌*ℤ◌, int_lt}
use Rattle.std.specs.Ordering.{int_eq}
use Rattle.std.specs.List.{list_all}
use Rattle.std.specs.declared.cmp.Ordering.{Ordering}
use Rattle.std.specs.declared.cmp.Ordering.TheVariants.{Less, Equal, Greater}
use Rattle.time_value.specs.declared.fault.TimeFault.{TimeFault}
use Rattle.time_value.specs.declared.fault.TimeFault.TheVariants.{NotLexical, OutOfRange}
use Rattle.time_value.specs.declared.duration.TimeParts.{TimeParts}
use Rattle.time_value.specs.declared.duration.DurationLiteral.{DurationLiteral}
use Rattle.time_value.specs.declared.reference.Reference.{Reference}
use Rattle.time_value.specs.Digits.{◌>>=◌}
use Rattle.time_value.specs.Duration.{duration}
use Rattle.time_value.specs.Reference.{references, day_after}

-- A duration is a number of months and a number of nanoseconds, both of one sign.
pub record SpanValue : Type 0 where
  pub months : ℤ
  pub nanoseconds : ℤ

-- a number up to a limit
abbrev pub up_to : ℕ → ℕ → Option ℕ
up_to limit n = if nat_le n limit then Some n else None

-- the years and months, up to 48,000 months
unfoldable pub months_of : DurationLiteral → Option ℕ
months_of d = do
  years ← d.years
  months ← d.months
  up_to 48_000 (years * 12 + months)

-- the days, hours, minutes and seconds, up to 126,230,400,000 seconds
unfoldable pub nanoseconds_of : Option ℕ → TimeParts → Option ℕ
nanoseconds_of parts_days time = do
  days ← parts_days
  hours ← time.hours
  minutes ← time.minutes
  seconds ← time.seconds.whole
  fraction ← time.seconds.fraction
  up_to 126_230_400_000_000_000_000
      ((days * 86_400 + hours * 3_600 + minutes * 60 + seconds) * 1_000_000_000 + fraction)

-- with the sign
abbrev pub signed : Bool → ℕ → ℤ
signed negative n = if negative then neg_ℤ (pos n) else pos n

abbrev pub within_limits : Bool → Option ℕ → Option ℕ → Result SpanValue TimeFault
within_limits negative None nanoseconds = Err OutOfRange
within_limits negative (Some months) None = Err OutOfRange
within_limits negative (Some months) (Some nanoseconds) =
    Ok (record { months = signed negative months; nanoseconds = signed negative nanoseconds })

-- the duration of parts within the limits
abbrev pub span_of : DurationLiteral → Result SpanValue TimeFault
span_of d = within_limits d.negative (months_of d) (nanoseconds_of d.days d.time)

-- what a literal that the grammar takes reads to
abbrev pub taken : Option DurationLiteral → Result SpanValue TimeFault
taken None = Err NotLexical
taken (Some d) = span_of d

-- what a text reads to
abbrev pub span : List ℕ → Result SpanValue TimeFault
span text = taken (duration text)

-- Appendix E: the moment that much later, where the months are added first, and then the seconds
abbrev pub moment_after : Reference → SpanValue → ℤ
moment_after start x = day_after start x.months *ℤ pos 86_400_000_000_000 +ℤ x.nanoseconds

-- x ends before y from each of the four moments
unfoldable pub is_shorter : SpanValue → SpanValue → Bool
is_shorter x y = list_all (λ start. int_lt (moment_after start x) (moment_after start y)) references

-- the same months and seconds
abbrev pub is_same : SpanValue → SpanValue → Bool
is_same x y = int_eq x.months y.months && int_eq x.nanoseconds y.nanoseconds

-- the order of two durations, and none where it is not decided
abbrev pub order : SpanValue → SpanValue → Option Ordering
order x y =
    if is_shorter x y then Some Less
    else (if is_shorter y x then Some Greater
    else (if is_same x y then Some Equal else None))
