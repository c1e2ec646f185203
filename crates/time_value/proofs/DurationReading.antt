-- What is written as a duration is read to its parts.
use Rattle.std.proofs.Common.{◌≡◌, ℕ, suc, ◌++◌, ◌&&◌, Bool, true, false, nat_eq, List, [], ◌∷◌, length, Option, Some, None, refl, arith}
use Rattle.std.specs.Prelude.{is_none, if◌then◌else◌}
use Rattle.std.specs.Char.{is_ascii_digit, IsAsciiDigit}
use Rattle.std.proofs.lemmas.List.Elements.{All-nil}
use Rattle.std.proofs.lemmas.Bool.Decides.{nat_tests}
use Rattle.time_value.specs.Digits.{AreDigits, after, minus_at, digits_at, fraction_at}
use Rattle.time_value.specs.Duration.{part_at, part_or_zero, seconds_at, seconds_or_zero, time_parts, time_of, parts_of, duration}
use Rattle.time_value.specs.Spelling.{IsFractionText, fraction_text}
use Rattle.time_value.specs.DurationSpelling.{WrittenDuration, IsWrittenDuration, IsPart, part_text, seconds_text, parts_text, duration_text, part_value, seconds_value, parts_of_written}
use Rattle.time_value.proofs.Reading.{begins_with_digit, digits_at-run, fraction_at-text}

-- the digits at the front are not those of the part with this letter
NotPart : ℕ → List ℕ → Type 0
NotPart letter rest = after letter (digits_at rest).1 ≡ None

not_part-digits : (letter c : ℕ) (digits rest : List ℕ) → AreDigits digits → is_ascii_digit c ≡ false → nat_eq c letter ≡ false → NotPart letter (digits ++ (c ∷ rest))
unfolding NotPart after
not_part-digits letter c digits rest all other differs = rw (digits_at-run digits (c ∷ rest) all other, differs) refl

not_part-nil : (letter : ℕ) → NotPart letter []
unfolding NotPart after digits_at
not_part-nil letter = refl

not_part-text : (part : Option (List ℕ)) (letter other : ℕ) (rest : List ℕ) → IsPart part → is_ascii_digit letter ≡ false → nat_eq letter other ≡ false → NotPart other rest → NotPart other (part_text part letter rest)
not_part-text None letter other rest is no_digit differs past = past
not_part-text (Some []) letter other rest is no_digit differs past = absurd is
not_part-text (Some (digit ∷ digits)) letter other rest is no_digit differs past = not_part-digits other letter (digit ∷ digits) rest is no_digit differs

not_part-seconds : (part fraction : Option (List ℕ)) (letter : ℕ) → IsPart part → nat_eq 83 letter ≡ false → nat_eq 46 letter ≡ false → NotPart letter (seconds_text part fraction [])
not_part-seconds None fraction letter is seconds point = not_part-nil letter
not_part-seconds (Some []) fraction letter is seconds point = absurd is
not_part-seconds (Some (digit ∷ digits)) None letter is seconds point = not_part-digits letter 83 (digit ∷ digits) [] is refl seconds
not_part-seconds (Some (digit ∷ digits)) (Some places) letter is seconds point = not_part-digits letter 46 (digit ∷ digits) (places ++ (83 ∷ [])) is refl point

not_part-time : (none : Bool) (clock : List ℕ) (letter : ℕ) → nat_eq 84 letter ≡ false → NotPart letter (if none then [] else 84 ∷ clock)
not_part-time true clock letter differs = not_part-nil letter
not_part-time false clock letter differs = not_part-digits letter 84 [] clock (All-nil IsAsciiDigit) refl differs

not_empty : (n : ℕ) → nat_eq (suc n) 0 ≡ false
not_empty n = grind (arith, nat_tests)

after-here : (c : ℕ) (rest : List ℕ) → after c (c ∷ rest) ≡ Some rest
unfolding after
after-here c rest =
    let same : nat_eq c c ≡ true = grind (arith, nat_tests) in
    rw same refl

part_or_zero-text : (part : Option (List ℕ)) (letter : ℕ) (rest : List ℕ) → IsPart part → is_ascii_digit letter ≡ false → NotPart letter rest → part_or_zero letter (part_text part letter rest) ≡ (part_value part, rest)
unfolding part_or_zero part_at NotPart
part_or_zero-text None letter rest is no_digit past = rw past refl
part_or_zero-text (Some []) letter rest is no_digit past = absurd is
part_or_zero-text (Some (digit ∷ digits)) letter rest is no_digit past =
    rw (digits_at-run (digit ∷ digits) (letter ∷ rest) is no_digit, after-here letter rest, not_empty (length digits)) refl

no_digit-fraction : (fraction : Option (List ℕ)) (rest : List ℕ) → begins_with_digit (fraction_text fraction (83 ∷ rest)) ≡ false
no_digit-fraction None rest = refl
no_digit-fraction (Some places) rest = refl

no_seconds : (fraction : Option (List ℕ)) → seconds_or_zero [] ≡ (seconds_value None fraction, [])
unfolding seconds_or_zero seconds_at digits_at fraction_at after
no_seconds fraction = refl

seconds_or_zero-text : (part fraction : Option (List ℕ)) → IsPart part → IsFractionText fraction → seconds_or_zero (seconds_text part fraction []) ≡ (seconds_value part fraction, [])
unfolding seconds_or_zero seconds_at after
seconds_or_zero-text None fraction is places = no_seconds fraction
seconds_or_zero-text (Some []) fraction is places = absurd is
seconds_or_zero-text (Some (digit ∷ digits)) fraction is places =
    rw (digits_at-run (digit ∷ digits) (fraction_text fraction (83 ∷ [])) is (no_digit-fraction fraction []), fraction_at-text fraction (83 ∷ []) places refl refl, not_empty (length digits)) refl

-- the parts behind T
clock_read : (hours minutes seconds fraction : Option (List ℕ)) → IsPart hours → IsPart minutes → IsPart seconds → IsFractionText fraction
    → nat_eq (length (part_text hours 72 (part_text minutes 77 (seconds_text seconds fraction [])))) 0 ≡ false
    → time_parts (part_text hours 72 (part_text minutes 77 (seconds_text seconds fraction []))) ≡ Some (record { hours = part_value hours; minutes = part_value minutes; seconds = seconds_value seconds fraction })
unfolding time_parts
clock_read hours minutes seconds fraction h m s f some =
    let past_minutes = not_part-seconds seconds fraction 77 s refl refl in
    let past_hours = not_part-text minutes 77 72 (seconds_text seconds fraction []) m refl refl (not_part-seconds seconds fraction 72 s refl refl) in
    rw (some, part_or_zero-text hours 72 (part_text minutes 77 (seconds_text seconds fraction [])) h refl past_hours, part_or_zero-text minutes 77 (seconds_text seconds fraction []) m refl past_minutes, seconds_or_zero-text seconds fraction s f) refl

time_of-clock : (clock : List ℕ) → time_of (84 ∷ clock) ≡ time_parts clock
unfolding time_of
time_of-clock clock = refl

time_read : (hours minutes seconds fraction : Option (List ℕ)) → IsPart hours → IsPart minutes → IsPart seconds → IsFractionText fraction
    → time_of (if is_none hours && is_none minutes && is_none seconds then [] else 84 ∷ part_text hours 72 (part_text minutes 77 (seconds_text seconds fraction [])))
    ≡ Some (record { hours = part_value hours; minutes = part_value minutes; seconds = seconds_value seconds fraction })
unfolding time_of
time_read None None None fraction h m s f = refl
time_read None None (Some []) fraction h m s f = absurd s
time_read None None (Some (digit ∷ digits)) fraction h m s f = clock_read None None (Some (digit ∷ digits)) fraction h m s f (not_empty _)
time_read None (Some []) seconds fraction h m s f = absurd m
time_read None (Some (digit ∷ digits)) seconds fraction h m s f = clock_read None (Some (digit ∷ digits)) seconds fraction h m s f (not_empty _)
time_read (Some []) minutes seconds fraction h m s f = absurd h
time_read (Some (digit ∷ digits)) minutes seconds fraction h m s f = clock_read (Some (digit ∷ digits)) minutes seconds fraction h m s f (not_empty _)

some_text : (years months days : Option (List ℕ)) (none : Bool) (clock : List ℕ) → IsPart years → IsPart months → IsPart days
    → is_none years && is_none months && is_none days && none ≡ false
    → nat_eq (length (part_text years 89 (part_text months 77 (part_text days 68 (if none then [] else 84 ∷ clock))))) 0 ≡ false
some_text None None None true clock y m d some = absurd (cc)
some_text None None None false clock y m d some = not_empty _
some_text None None (Some []) none clock y m d some = absurd d
some_text None None (Some (digit ∷ digits)) none clock y m d some = not_empty _
some_text None (Some []) days none clock y m d some = absurd m
some_text None (Some (digit ∷ digits)) days none clock y m d some = not_empty _
some_text (Some []) months days none clock y m d some = absurd y
some_text (Some (digit ∷ digits)) months days none clock y m d some = not_empty _

parts_read : (negative : Bool) (w : WrittenDuration) → IsWrittenDuration w → parts_of negative (parts_text w) ≡ Some (record (parts_of_written w) { negative = negative })
unfolding parts_of
parts_read negative w is =
    let time = if is_none w.hours && is_none w.minutes && is_none w.seconds then [] else 84 ∷ part_text w.hours 72 (part_text w.minutes 77 (seconds_text w.seconds w.fraction [])) in
    let none = is_none w.hours && is_none w.minutes && is_none w.seconds in
    let clock = part_text w.hours 72 (part_text w.minutes 77 (seconds_text w.seconds w.fraction [])) in
    let past_days = not_part-time none clock 68 refl in
    let past_months = not_part-text w.days 68 77 time is.days refl refl (not_part-time none clock 77 refl) in
    let past_years = not_part-text w.months 77 89 (part_text w.days 68 time) is.months refl refl (not_part-text w.days 68 89 time is.days refl refl (not_part-time none clock 89 refl)) in
    rw (
      some_text w.years w.months w.days none clock is.years is.months is.days is.some_part,
      part_or_zero-text w.years 89 (part_text w.months 77 (part_text w.days 68 time)) is.years refl past_years,
      part_or_zero-text w.months 77 (part_text w.days 68 time) is.months refl past_months,
      part_or_zero-text w.days 68 time is.days refl past_days,
      time_read w.hours w.minutes w.seconds w.fraction is.hours is.minutes is.seconds is.fraction,
    ) refl

signed_read : (negative : Bool) (parts : List ℕ) → duration (if negative then 45 ∷ (80 ∷ parts) else 80 ∷ parts) ≡ parts_of negative parts
unfolding duration minus_at after
signed_read true parts = refl
signed_read false parts = refl

pub duration-text : (w : WrittenDuration) → IsWrittenDuration w → duration (duration_text w) ≡ Some (parts_of_written w)
duration-text w is = rw (signed_read w.negative (parts_text w)) (parts_read w.negative w is)
