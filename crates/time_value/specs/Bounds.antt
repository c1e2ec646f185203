-- The ranges of the fields that the readers of literals give.
use Rattle.std.specs.Prelude.{◌≡◌, ℕ, ◌<◌, ◌≤◌, Bool, IfSome, ℤ, pos}
use Rattle.jiff_core.specs.Calendar.{IsWithin, is_leap_year}
use Rattle.time_value.specs.declared.literal.LiteralDate.{LiteralDate}
use Rattle.time_value.specs.declared.literal.LiteralTime.{LiteralTime}
use Rattle.time_value.specs.declared.literal.Literal.{Literal}

-- a year within the limits, and whether it is a leap year
abbrev pub IsYearNumber : Bool → ℕ → Type 0
IsYearNumber leap year = (1 ≤ year) × (year ≤ 9999) × (leap ≡ is_leap_year (pos year))

-- nanoseconds below a second
abbrev pub IsFraction : ℕ → Type 0
IsFraction nanoseconds = nanoseconds < 1_000_000_000

-- minutes of a zone
abbrev pub IsOffset : ℤ → Type 0
IsOffset minutes = IsWithin 840 minutes

pub record IsLiteralDate (date : LiteralDate) : Type 0 where
  pub year : IfSome date.year.within (IsYearNumber date.year.leap)
  pub month_low : 1 ≤ date.month
  pub month_high : date.month ≤ 12

pub record IsLiteralTime (time : LiteralTime) : Type 0 where
  pub hour : time.hour ≤ 24
  pub minute : time.minute < 60
  pub second : time.second < 60
  pub fraction : IfSome time.fraction IsFraction

pub record IsLiteral (l : Literal) : Type 0 where
  pub date : IsLiteralDate l.date
  pub time : IsLiteralTime l.time
  pub zone : IfSome l.zone IsOffset
