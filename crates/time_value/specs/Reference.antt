-- The four moments that durations are added to when they are compared: Datatypes 3.2.6.2.
use Rattle.std.specs.Prelude.{ℕ, ◌+◌, ◌*◌, List, [], ◌∷◌, ℤ, pos, ◌+ℤ◌, unsigned_abs}
use Rattle.std.specs.Int.{int_div_euclid, int_rem_euclid}
use Rattle.jiff_core.specs.Calendar.{days_from_civil}
use Rattle.time_value.specs.declared.reference.Reference.{Reference}
use Rattle.time_value.specs.declared.reference.Reference.TheVariants.{September1696, February1697, March1903, July1903}

-- 1696-09-01, 1697-02-01, 1903-03-01 and 1903-07-01, each at 00:00:00Z
abbrev pub references : List Reference
references = September1696 ∷ February1697 ∷ March1903 ∷ July1903 ∷ []

-- the months from January of the year 0
abbrev pub months_before : Reference → ℕ
months_before September1696 = 1696 * 12 + 8
months_before February1697 = 1697 * 12 + 1
months_before March1903 = 1903 * 12 + 2
months_before July1903 = 1903 * 12 + 6

-- the day number of the first of a month, by its months from January of the year 0
abbrev pub first_of_month : ℤ → ℤ
first_of_month months =
    days_from_civil (int_div_euclid months (pos 12)) (unsigned_abs (int_rem_euclid months (pos 12)) + 1) 1

-- Appendix E: the day number that many months after the moment, which is a first of a month again
abbrev pub day_after : Reference → ℤ → ℤ
day_after start months = first_of_month (pos (months_before start) +ℤ months)
