-- What a literal of the eight types of moments reads to, and the order of moments.
use Rattle.std.specs.Prelude.{ℕ, ◌+◌, ◌*◌, ◌&&◌, ◌||◌, ◌==◌, not, Bool, List, Option, Some, None, Result, Ok, Err, unwrap_or, is_some, if◌then◌else◌, nat_le, ℤ, pos, ◌+ℤ◌, ◌-ℤ◌, ◌*ℤ◌, int_lt}
use Rattle.std.specs.Ordering.{int_eq}
use Rattle.std.specs.declared.cmp.Ordering.{Ordering}
use Rattle.std.specs.declared.cmp.Ordering.TheVariants.{Less, Equal, Greater}
use Rattle.jiff_core.specs.Calendar.{days_from_civil}
use Rattle.time_value.specs.declared.fault.TimeFault.{TimeFault}
use Rattle.time_value.specs.declared.fault.TimeFault.TheVariants.{NotLexical, NoSuchDate, OutOfRange}
use Rattle.time_value.specs.declared.literal.LiteralDate.{LiteralDate}
use Rattle.time_value.specs.declared.literal.LiteralTime.{LiteralTime}
use Rattle.time_value.specs.declared.literal.Literal.{Literal}
use Rattle.time_value.specs.declared.literal.MomentKind.{MomentKind}
use Rattle.time_value.specs.Literal.{literal}

-- A moment lies on the time line, in nanoseconds from 1970-01-01T00:00:00Z. One without a zone lies
-- where UTC would have it, and is known only to within fourteen hours.
pub record MomentValue : Type 0 where
  pub zoned : Bool
  pub nanoseconds : ℤ

-- the days of a month
abbrev pub month_length : Bool → ℕ → ℕ
month_length leap month =
    if month == 2 then (if leap then 29 else 28)
    else (if (month == 4) || (month == 6) || (month == 9) || (month == 11) then 30 else 31)

-- the month has the day
abbrev pub has_day : LiteralDate → Bool
has_day date = nat_le 1 date.day && nat_le date.day (month_length date.year.leap date.month)

-- nanoseconds since midnight, where hour 24 is the next midnight
abbrev pub clock : ℕ → LiteralTime → ℕ
clock fraction time =
    (time.hour * 3_600 + time.minute * 60 + time.second) * 1_000_000_000 + fraction

-- the moment of fields within the limits: the day number gives 24 hours to each day, and the zone is
-- taken away
abbrev pub moment_at : ℕ → ℕ → Literal → MomentValue
moment_at year fraction l = record {
  zoned = is_some l.zone;
  nanoseconds = days_from_civil (pos year) l.date.month l.date.day *ℤ pos 86_400_000_000_000
      +ℤ pos (clock fraction l.time) -ℤ unwrap_or l.zone (pos 0) *ℤ pos 60_000_000_000;
}

-- 9999-12-31T24:00:00, whose day has no next one
abbrev pub is_past_last_day : ℕ → Literal → Bool
is_past_last_day year l =
    (year == 9999) && (l.date.month == 12) && (l.date.day == 31) && (l.time.hour == 24)

-- a year and a fraction within the limits
unfoldable pub placed : Option ℕ → Option ℕ → Literal → Result MomentValue TimeFault
placed None fraction l = Err OutOfRange
placed (Some year) None l = Err OutOfRange
placed (Some year) (Some fraction) l =
    if is_past_last_day year l then Err OutOfRange else Ok (moment_at year fraction l)

-- a day that there is, and then the limits
unfoldable pub moment_of : Literal → Result MomentValue TimeFault
moment_of l =
    if has_day l.date then placed l.date.year.within l.time.fraction l else Err NoSuchDate

-- what a literal that the grammar takes reads to
abbrev pub taken : Option Literal → Result MomentValue TimeFault
taken None = Err NotLexical
taken (Some l) = moment_of l

-- what a text reads to as a literal of this type
abbrev pub moment : MomentKind → List ℕ → Result MomentValue TimeFault
moment kind text = taken (literal kind text)

-- fourteen hours, in nanoseconds
abbrev pub fourteen_hours : ℤ
fourteen_hours = pos 50_400_000_000_000

-- 3.2.7.4: p is before q wherever in fourteen hours around UTC the one without a zone lies
abbrev pub is_before : MomentValue → MomentValue → Bool
is_before p q =
    if p.zoned
    then (if q.zoned then int_lt p.nanoseconds q.nanoseconds
    else int_lt p.nanoseconds (q.nanoseconds -ℤ fourteen_hours))
    else (if q.zoned then int_lt (p.nanoseconds +ℤ fourteen_hours) q.nanoseconds
    else int_lt p.nanoseconds q.nanoseconds)

-- the same value
abbrev pub is_same : MomentValue → MomentValue → Bool
is_same p q = (if p.zoned then q.zoned else not q.zoned) && int_eq p.nanoseconds q.nanoseconds

-- the order of two moments, and none where it is not decided
abbrev pub order : MomentValue → MomentValue → Option Ordering
order p q =
    if is_before p q then Some Less
    else (if is_before q p then Some Greater
    else (if is_same p q then Some Equal else None))
