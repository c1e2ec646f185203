-- The literals of durations, written as the standard writes them: Datatypes 3.2.6.1.
use Rattle.std.specs.Prelude.{◌≡◌, ℕ, ◌&&◌, is_none, Bool, false, List, [], ◌∷◌, ◌++◌, Option, Some, None, if◌then◌else◌}
use Rattle.time_value.specs.declared.duration.Seconds.{Seconds}
use Rattle.time_value.specs.declared.duration.DurationLiteral.{DurationLiteral}
use Rattle.time_value.specs.Digits.{AreDigits, count_of}
use Rattle.time_value.specs.Spelling.{IsFractionText, fraction_text, fraction_value}

-- what a literal writes: the digits of each part that is there
pub record WrittenDuration : Type 0 where
  pub negative : Bool
  pub years : Option (List ℕ)
  pub months : Option (List ℕ)
  pub days : Option (List ℕ)
  pub hours : Option (List ℕ)
  pub minutes : Option (List ℕ)
  pub seconds : Option (List ℕ)
  pub fraction : Option (List ℕ)

-- the digits and the letter of a part that is there
abbrev pub part_text : Option (List ℕ) → ℕ → List ℕ → List ℕ
part_text None letter rest = rest
part_text (Some digits) letter rest = digits ++ (letter ∷ rest)

-- nS or n.nS, if it is there
abbrev pub seconds_text : Option (List ℕ) → Option (List ℕ) → List ℕ → List ℕ
seconds_text None fraction rest = rest
seconds_text (Some digits) fraction rest = digits ++ fraction_text fraction (83 ∷ rest)

-- the parts behind T
abbrev pub clock_text : WrittenDuration → List ℕ
clock_text w = part_text w.hours 72 (part_text w.minutes 77 (seconds_text w.seconds w.fraction []))

-- no part stands behind T
abbrev pub has_no_clock : WrittenDuration → Bool
has_no_clock w = is_none w.hours && is_none w.minutes && is_none w.seconds

-- T where a part stands behind it
abbrev pub time_text : WrittenDuration → List ℕ
time_text w = if has_no_clock w then [] else 84 ∷ clock_text w

-- all the parts
abbrev pub parts_text : WrittenDuration → List ℕ
parts_text w = part_text w.years 89 (part_text w.months 77 (part_text w.days 68 (time_text w)))

-- -?PnYnMnDTnHnMnS
abbrev pub duration_text : WrittenDuration → List ℕ
duration_text w = if w.negative then 45 ∷ (80 ∷ parts_text w) else 80 ∷ parts_text w

-- at least one digit in a part
abbrev pub IsPart : Option (List ℕ) → Type 0
IsPart None = Unit {0}
IsPart (Some []) = ⊥
IsPart (Some (digit ∷ digits)) = AreDigits (digit ∷ digits)

-- what may be written: at least one part, and a fraction behind seconds alone
pub record IsWrittenDuration (w : WrittenDuration) : Type 0 where
  pub years : IsPart w.years
  pub months : IsPart w.months
  pub days : IsPart w.days
  pub hours : IsPart w.hours
  pub minutes : IsPart w.minutes
  pub seconds : IsPart w.seconds
  pub fraction : IsFractionText w.fraction
  pub some_part : is_none w.years && is_none w.months && is_none w.days && has_no_clock w ≡ false

-- the number of a part, and 0 where it is not there
abbrev pub part_value : Option (List ℕ) → Option ℕ
part_value None = Some 0
part_value (Some digits) = count_of digits

abbrev pub seconds_value : Option (List ℕ) → Option (List ℕ) → Seconds
seconds_value None fraction = record { whole = Some 0; fraction = Some 0 }
seconds_value (Some digits) fraction = record { whole = count_of digits; fraction = fraction_value fraction }

-- the parts of what is written
abbrev pub parts_of_written : WrittenDuration → DurationLiteral
parts_of_written w = record {
  negative = w.negative;
  years = part_value w.years;
  months = part_value w.months;
  days = part_value w.days;
  time = record {
    hours = part_value w.hours;
    minutes = part_value w.minutes;
    seconds = seconds_value w.seconds w.fraction;
  };
}

-- the text is in the lexical form of a duration
abbrev pub IsLexicalDuration : List ℕ → Type 0
IsLexicalDuration text = (w : WrittenDuration) × IsWrittenDuration w × (text ≡ duration_text w)
