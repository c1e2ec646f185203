-- The literals of the eight types of moments, written as the standard writes them: Datatypes 3.2.7 to
-- 3.2.14. Each piece is written before the text that follows it.
use Rattle.std.specs.Prelude.{◌≡◌, ℕ, ◌+◌, ◌*◌, ◌/◌, ◌%◌, ◌<◌, ◌≤◌, ◌&&◌, ◌||◌, ◌==◌, nat_lt, is_none, Bool, true, List, [], ◌∷◌, ◌++◌, Option, Some, None, if◌then◌else◌, ℤ, pos, neg_ℤ}
use Rattle.time_value.specs.declared.literal.LiteralDate.{LiteralDate}
use Rattle.time_value.specs.declared.literal.LiteralTime.{LiteralTime}
use Rattle.time_value.specs.declared.literal.Literal.{Literal}
use Rattle.time_value.specs.declared.literal.MomentKind.{MomentKind}
use Rattle.time_value.specs.declared.literal.MomentKind.TheVariants as kinds
use Rattle.time_value.specs.Digits.{AreDigits, nanoseconds}
use Rattle.time_value.specs.Literal.{is_year, year_value, year_1972, midnight, first_midnight}

-- no zone, Z, or a sign with hours and minutes
pub data Zone : Type 0 where
  NoZone : Zone
  Utc : Zone
  Ahead : (hours minutes : ℕ) → Zone
  Behind : (hours minutes : ℕ) → Zone

-- what a literal writes
pub record Written : Type 0 where
  pub negative : Bool
  pub year : List ℕ
  pub month : ℕ
  pub day : ℕ
  pub hour : ℕ
  pub minute : ℕ
  pub second : ℕ
  pub fraction : Option (List ℕ)
  pub zone : Zone

-- the two digits of a number below 100
abbrev pub pair : ℕ → List ℕ → List ℕ
pair n rest = (48 + n / 10) ∷ (48 + n % 10) ∷ rest

-- CCYY, behind a minus sign or not
abbrev pub year_text : Written → List ℕ → List ℕ
year_text w rest = if w.negative then 45 ∷ (w.year ++ rest) else w.year ++ rest

-- CCYY-MM-DD
abbrev pub date_text : Written → List ℕ → List ℕ
date_text w rest = year_text w (45 ∷ pair w.month (45 ∷ pair w.day rest))

-- .s+
abbrev pub fraction_text : Option (List ℕ) → List ℕ → List ℕ
fraction_text None rest = rest
fraction_text (Some digits) rest = 46 ∷ (digits ++ rest)

-- hh:mm:ss(.s+)?
abbrev pub time_text : Written → List ℕ → List ℕ
time_text w rest = pair w.hour (58 ∷ pair w.minute (58 ∷ pair w.second (fraction_text w.fraction rest)))

-- Z, +hh:mm or -hh:mm
abbrev pub zone_text : Zone → List ℕ
zone_text NoZone = []
zone_text Utc = 90 ∷ []
zone_text (Ahead hours minutes) = 43 ∷ pair hours (58 ∷ pair minutes [])
zone_text (Behind hours minutes) = 45 ∷ pair hours (58 ∷ pair minutes [])

-- the lexical form of each type
abbrev pub text_of : MomentKind → Written → List ℕ
text_of kinds.DateTime w = date_text w (84 ∷ time_text w (zone_text w.zone))
text_of kinds.Date w = date_text w (zone_text w.zone)
text_of kinds.Time w = time_text w (zone_text w.zone)
text_of kinds.YearMonth w = year_text w (45 ∷ pair w.month (zone_text w.zone))
text_of kinds.Year w = year_text w (zone_text w.zone)
text_of kinds.MonthDay w = 45 ∷ 45 ∷ pair w.month (45 ∷ pair w.day (zone_text w.zone))
text_of kinds.Day w = 45 ∷ 45 ∷ 45 ∷ pair w.day (zone_text w.zone)
text_of kinds.Month w = 45 ∷ 45 ∷ pair w.month (zone_text w.zone)

-- at least one digit behind the point
abbrev pub IsFractionText : Option (List ℕ) → Type 0
IsFractionText None = Unit {0}
IsFractionText (Some []) = ⊥
IsFractionText (Some (digit ∷ digits)) = AreDigits (digit ∷ digits)

-- up to 14:00
pub record IsZoneTime (hours minutes : ℕ) : Type 0 where
  pub minutes_in : minutes < 60
  pub total_in : hours * 60 + minutes ≤ 840

abbrev pub IsZone : Zone → Type 0
IsZone NoZone = Unit {0}
IsZone Utc = Unit {0}
IsZone (Ahead hours minutes) = IsZoneTime hours minutes
IsZone (Behind hours minutes) = IsZoneTime hours minutes

-- below 24, or 24:00:00 without a fraction
abbrev pub is_written_hour : Written → Bool
is_written_hour w =
    nat_lt w.hour 24 || ((w.hour == 24) && (w.minute == 0) && (w.second == 0) && is_none w.fraction)

-- what may be written, whatever the days of the month
pub record IsWritten (w : Written) : Type 0 where
  pub digits : AreDigits w.year
  pub year : is_year w.year ≡ true
  pub month_low : 1 ≤ w.month
  pub month_high : w.month ≤ 12
  pub day : w.day < 100
  pub hour : is_written_hour w ≡ true
  pub minute : w.minute < 60
  pub second : w.second < 60
  pub fraction : IsFractionText w.fraction
  pub zone : IsZone w.zone

-- nanoseconds, where nine places hold them
abbrev pub fraction_value : Option (List ℕ) → Option ℕ
fraction_value None = Some 0
fraction_value (Some digits) = nanoseconds digits

-- minutes ahead of UTC
abbrev pub zone_value : Zone → Option ℤ
zone_value NoZone = None
zone_value Utc = Some (pos 0)
zone_value (Ahead hours minutes) = Some (pos (hours * 60 + minutes))
zone_value (Behind hours minutes) = Some (neg_ℤ (pos (hours * 60 + minutes)))

-- the fields of the date, those of 1972-01-01 where they are not written
abbrev pub date_of : MomentKind → Written → LiteralDate
date_of kinds.DateTime w = record { year = year_value w.negative w.year; month = w.month; day = w.day }
date_of kinds.Date w = record { year = year_value w.negative w.year; month = w.month; day = w.day }
date_of kinds.Time w = record { year = year_1972; month = 1; day = 1 }
date_of kinds.YearMonth w = record { year = year_value w.negative w.year; month = w.month; day = 1 }
date_of kinds.Year w = record { year = year_value w.negative w.year; month = 1; day = 1 }
date_of kinds.MonthDay w = record { year = year_1972; month = w.month; day = w.day }
date_of kinds.Day w = record { year = year_1972; month = 1; day = w.day }
date_of kinds.Month w = record { year = year_1972; month = w.month; day = 1 }

abbrev pub written_time : Written → LiteralTime
written_time w =
    record { hour = w.hour; minute = w.minute; second = w.second; fraction = fraction_value w.fraction }

-- and those of the time, 00:00:00 where it is not written
abbrev pub time_of : MomentKind → Written → LiteralTime
time_of kinds.DateTime w = written_time w
time_of kinds.Date w = midnight
time_of kinds.Time w = first_midnight (written_time w)
time_of kinds.YearMonth w = midnight
time_of kinds.Year w = midnight
time_of kinds.MonthDay w = midnight
time_of kinds.Day w = midnight
time_of kinds.Month w = midnight

-- the fields of what is written
abbrev pub literal_of : MomentKind → Written → Literal
literal_of kind w = record { date = date_of kind w; time = time_of kind w; zone = zone_value w.zone }

-- the text writes a literal of the type, which has these fields
pub record IsTaken (kind : MomentKind) (text : List ℕ) (l : Literal) : Type 0 where
  pub what : Written
  pub is : IsWritten what
  pub text_is : text ≡ text_of kind what
  pub literal_is : l ≡ literal_of kind what

-- the text is in the lexical form of the type
abbrev pub IsLexical : MomentKind → List ℕ → Type 0
IsLexical kind text = (w : Written) × IsWritten w × (text ≡ text_of kind w)
