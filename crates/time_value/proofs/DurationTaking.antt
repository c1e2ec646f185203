-- What is read as a duration was written as one.
use Rattle.std.proofs.Common.{◌≡◌, ℕ, ◌++◌, ◌&&◌, inl, inr, Bool, true, false, nat_eq, List, [], ◌∷◌, length, Option, Some, None, refl, sym, ap, subst, ◌∙◌}
use Rattle.std.specs.Prelude.{is_none, if◌then◌else◌}
use Rattle.time_value.specs.declared.duration.Seconds.{Seconds}
use Rattle.time_value.specs.declared.duration.TimeParts.{TimeParts}
use Rattle.time_value.specs.declared.duration.DurationLiteral.{DurationLiteral}
use Rattle.time_value.specs.Digits.{◌>>=◌, Front, AreDigits, after, minus_at, digits_at, fraction_at, count_of}
use Rattle.time_value.specs.Duration.{part_at, or_zero, part_or_zero, seconds_at, or_no_seconds, seconds_or_zero, time_parts, time_of, parts_of, duration}
use Rattle.time_value.specs.Spelling.{IsFractionText, fraction_text}
use Rattle.time_value.specs.DurationSpelling.{WrittenDuration, IsWrittenDuration, IsPart, part_text, seconds_text, parts_text, duration_text, part_value, seconds_value, parts_of_written}
use Rattle.time_value.proofs.Taking.{bind_some, some_is, chosen, same_number, no_more, after-takes, behind_sign, minus_at-takes, digits_at-whole, digits_at-digits, fraction_at-takes}

pub record PartTaken (letter : ℕ) (text : List ℕ) (value : Option ℕ) (rest : List ℕ) : Type 0 where
  pub part : Option (List ℕ)
  pub is : IsPart part
  pub written : text ≡ part_text part letter rest
  pub value_is : value ≡ part_value part

-- at least one digit
some_digits : (digits : List ℕ) → AreDigits digits → nat_eq (length digits) 0 ≡ false → IsPart (Some digits)
some_digits [] all some = absurd (cc)
some_digits (digit ∷ digits) all some = all

part_at-takes : (letter : ℕ) (text : List ℕ) (found : Option ℕ × List ℕ) → part_at letter text ≡ Some found → PartTaken letter text found.0 found.1
unfolding part_at
part_at-takes letter text found e =
    let digits = digits_at text in
    let s = bind_some (after letter digits.1) (λ rest. if nat_eq (length digits.0) 0 then None else Some (count_of digits.0, rest)) found e in
    elim (chosen (nat_eq (length digits.0) 0) None (Some (count_of digits.0, s.0)) (Some found) s.2) [
      | inl (none, read) ↦ absurd (cc)
      | inr (some, read) ↦
          let whole : text ≡ digits.0 ++ (letter ∷ s.0) = digits_at-whole text ∙ ap (λ xs. digits.0 ++ xs) (after-takes letter digits.1 s.0 s.1) in
          let taken : PartTaken letter text (count_of digits.0) s.0 =
          record { part = Some digits.0; is = some_digits digits.0 (digits_at-digits text) some; written = whole; value_is = refl } in
          let P : Option ℕ × List ℕ → Type 0 = λ found. PartTaken letter text found.0 found.1 in
          subst P (some_is _ _ read) taken
    ]

part_case : (letter : ℕ) (text : List ℕ) (r : Front (Option ℕ)) → part_at letter text ≡ r → PartTaken letter text (or_zero text r).0 (or_zero text r).1
part_case letter text None e = record { part = None; is = tt; written = refl; value_is = refl }
part_case letter text (Some found) e = part_at-takes letter text found e

part_or_zero-takes : (letter : ℕ) (text : List ℕ) → PartTaken letter text (part_or_zero letter text).0 (part_or_zero letter text).1
unfolding part_or_zero
part_or_zero-takes letter text = part_case letter text (part_at letter text) refl

pub record SecondsTaken (text : List ℕ) (value : Seconds) (rest : List ℕ) : Type 0 where
  pub part : Option (List ℕ)
  pub fraction : Option (List ℕ)
  pub is : IsPart part
  pub fraction_in : IsFractionText fraction
  pub written : text ≡ seconds_text part fraction rest
  pub value_is : value ≡ seconds_value part fraction

seconds_at-takes : (text : List ℕ) (found : Seconds × List ℕ) → seconds_at text ≡ Some found → SecondsTaken text found.0 found.1
unfolding seconds_at
seconds_at-takes text found e =
    let digits = digits_at text in
    let f = bind_some (fraction_at digits.1) (λ fraction. after 83 fraction.1 >>= λ rest. if nat_eq (length digits.0) 0 then None else Some (record { whole = count_of digits.0; fraction = fraction.0 }, rest)) found e in
    let s = bind_some (after 83 f.0.1) (λ rest. if nat_eq (length digits.0) 0 then None else Some (record { whole = count_of digits.0; fraction = f.0.0 }, rest)) found f.2 in
    let value : Seconds = record { whole = count_of digits.0; fraction = f.0.0 } in
    elim (chosen (nat_eq (length digits.0) 0) None (Some (value, s.0)) (Some found) s.2) [
      | inl (none, read) ↦ absurd (cc)
      | inr (some, read) ↦
          let places = fraction_at-takes digits.1 f.0 f.1 in
          let past : digits.1 ≡ fraction_text places.fraction (83 ∷ s.0) = places.written ∙ ap (fraction_text places.fraction) (after-takes 83 f.0.1 s.0 s.1) in
          let whole : text ≡ digits.0 ++ fraction_text places.fraction (83 ∷ s.0) = digits_at-whole text ∙ ap (λ xs. digits.0 ++ xs) past in
          let with_fraction : Option ℕ → Seconds = λ fraction. record { whole = count_of digits.0; fraction = fraction } in
          let taken : SecondsTaken text value s.0 = record {
            part = Some digits.0;
            fraction = places.fraction;
            is = some_digits digits.0 (digits_at-digits text) some;
            fraction_in = places.is;
            written = whole;
            value_is = ap with_fraction places.value_is;
          } in
          let P : Seconds × List ℕ → Type 0 = λ found. SecondsTaken text found.0 found.1 in
          subst P (some_is _ _ read) taken
    ]

seconds_case : (text : List ℕ) (r : Front Seconds) → seconds_at text ≡ r → SecondsTaken text (or_no_seconds text r).0 (or_no_seconds text r).1
seconds_case text None e = record { part = None; fraction = None; is = tt; fraction_in = tt; written = refl; value_is = refl }
seconds_case text (Some found) e = seconds_at-takes text found e

seconds_or_zero-takes : (text : List ℕ) → SecondsTaken text (seconds_or_zero text).0 (seconds_or_zero text).1
unfolding seconds_or_zero
seconds_or_zero-takes text = seconds_case text (seconds_at text) refl

-- a text that is not empty has a part
has_clock : (hours minutes seconds fraction : Option (List ℕ)) → nat_eq (length (part_text hours 72 (part_text minutes 77 (seconds_text seconds fraction [])))) 0 ≡ false
    → is_none hours && is_none minutes && is_none seconds ≡ false
has_clock None None None fraction some = absurd (cc)
has_clock None None (Some digits) fraction some = refl
has_clock None (Some digits) seconds fraction some = refl
has_clock (Some digits) minutes seconds fraction some = refl

pub record ClockTaken (text : List ℕ) (value : TimeParts) : Type 0 where
  pub hours : Option (List ℕ)
  pub minutes : Option (List ℕ)
  pub seconds : Option (List ℕ)
  pub fraction : Option (List ℕ)
  pub hours_in : IsPart hours
  pub minutes_in : IsPart minutes
  pub seconds_in : IsPart seconds
  pub fraction_in : IsFractionText fraction
  pub written : text ≡ (if is_none hours && is_none minutes && is_none seconds then [] else 84 ∷ part_text hours 72 (part_text minutes 77 (seconds_text seconds fraction [])))
  pub value_is : value ≡ record { hours = part_value hours; minutes = part_value minutes; seconds = seconds_value seconds fraction }

same_time : (h k m n : Option ℕ) (s t : Seconds) → h ≡ k → m ≡ n → s ≡ t → ◌≡◌ {A = TimeParts} (record { hours = h; minutes = m; seconds = s }) (record { hours = k; minutes = n; seconds = t })
same_time h k m n s t e f g = rw (e, f, g) refl

time_parts-takes : (text : List ℕ) (value : TimeParts) → time_parts text ≡ Some value → ClockTaken (84 ∷ text) value
unfolding time_parts
time_parts-takes text value e =
    let hours = part_or_zero 72 text in
    let minutes = part_or_zero 77 hours.1 in
    let seconds = seconds_or_zero minutes.1 in
    let made : TimeParts = record { hours = hours.0; minutes = minutes.0; seconds = seconds.0 } in
    elim (chosen (nat_eq (length text) 0) None (if nat_eq (length seconds.1) 0 then Some made else None) (Some value) e) [
      | inl (none, read) ↦ absurd (cc)
      | inr (some, read) ↦ elim (chosen (nat_eq (length seconds.1) 0) (Some made) None (Some value) read) [
        | inr (more, read) ↦ absurd (cc)
        | inl (whole, read) ↦
            let h = part_or_zero-takes 72 text in
            let m = part_or_zero-takes 77 hours.1 in
            let s = seconds_or_zero-takes minutes.1 in
            let end : minutes.1 ≡ seconds_text s.part s.fraction [] = s.written ∙ ap (seconds_text s.part s.fraction) (no_more seconds.1 whole) in
            let clock : text ≡ part_text h.part 72 (part_text m.part 77 (seconds_text s.part s.fraction [])) = h.written ∙ ap (part_text h.part 72) (m.written ∙ ap (part_text m.part 77) end) in
            let there = has_clock h.part m.part s.part s.fraction (rw (← clock) some) in
            record {
              hours = h.part;
              minutes = m.part;
              seconds = s.part;
              fraction = s.fraction;
              hours_in = h.is;
              minutes_in = m.is;
              seconds_in = s.is;
              fraction_in = s.fraction_in;
              written = rw there (ap (λ xs. 84 ∷ xs) clock);
              value_is = sym (some_is _ _ read) ∙ same_time _ _ _ _ _ _ h.value_is m.value_is s.value_is;
            }
      ]
    ]

time_of-takes : (text : List ℕ) (value : TimeParts) → time_of text ≡ Some value → ClockTaken text value
unfolding time_of
time_of-takes [] value e = record {
  hours = None;
  minutes = None;
  seconds = None;
  fraction = None;
  hours_in = tt;
  minutes_in = tt;
  seconds_in = tt;
  fraction_in = tt;
  written = refl;
  value_is = sym (some_is _ _ e);
}
time_of-takes (c ∷ rest) value e =
    elim (chosen (nat_eq c 84) (time_parts rest) None (Some value) e) [
      | inr (other, read) ↦ absurd (cc)
      | inl (same, read) ↦
          let P : List ℕ → Type 0 = λ text. ClockTaken text value in
          subst P (ap (λ x. x ∷ rest) (sym (same_number c 84 same))) (time_parts-takes rest value read)
    ]

-- a text that is not empty has a part
has_part : (years months days : Option (List ℕ)) (none : Bool) (clock : List ℕ) → nat_eq (length (part_text years 89 (part_text months 77 (part_text days 68 (if none then [] else 84 ∷ clock))))) 0 ≡ false
    → is_none years && is_none months && is_none days && none ≡ false
has_part None None None true clock some = absurd (cc)
has_part None None None false clock some = refl
has_part None None (Some digits) none clock some = refl
has_part None (Some digits) days none clock some = refl
has_part (Some digits) months days none clock some = refl

-- the text writes a duration with these parts
pub record DurationTaken (negative : Bool) (parts : List ℕ) (l : DurationLiteral) : Type 0 where
  pub what : WrittenDuration
  pub is : IsWrittenDuration what
  pub sign_is : what.negative ≡ negative
  pub written : parts ≡ parts_text what
  pub literal_is : l ≡ parts_of_written what

same_parts : (negative : Bool) (a b c d e f : Option ℕ) (s t : TimeParts) → a ≡ b → c ≡ d → e ≡ f → s ≡ t
    → ◌≡◌ {A = DurationLiteral} (record { negative = negative; years = a; months = c; days = e; time = s }) (record { negative = negative; years = b; months = d; days = f; time = t })
same_parts negative a b c d e f s t p q r u = rw (p, q, r, u) refl

parts_of-takes : (negative : Bool) (text : List ℕ) (l : DurationLiteral) → parts_of negative text ≡ Some l → DurationTaken negative text l
unfolding parts_of
parts_of-takes negative text l e =
    let years = part_or_zero 89 text in
    let months = part_or_zero 77 years.1 in
    let days = part_or_zero 68 months.1 in
    let t = bind_some (time_of days.1) (λ time. if nat_eq (length text) 0 then None else Some (record { negative = negative; years = years.0; months = months.0; days = days.0; time = time })) l e in
    let made : DurationLiteral = record { negative = negative; years = years.0; months = months.0; days = days.0; time = t.0 } in
    elim (chosen (nat_eq (length text) 0) None (Some made) (Some l) t.2) [
      | inl (none, read) ↦ absurd (cc)
      | inr (some, read) ↦
          let y = part_or_zero-takes 89 text in
          let m = part_or_zero-takes 77 years.1 in
          let d = part_or_zero-takes 68 months.1 in
          let c = time_of-takes days.1 t.0 t.1 in
          let w : WrittenDuration = record {
            negative = negative;
            years = y.part;
            months = m.part;
            days = d.part;
            hours = c.hours;
            minutes = c.minutes;
            seconds = c.seconds;
            fraction = c.fraction;
          } in
          let whole : text ≡ parts_text w = y.written ∙ ap (part_text y.part 89) (m.written ∙ ap (part_text m.part 77) (d.written ∙ ap (part_text d.part 68) c.written)) in
          let none = is_none c.hours && is_none c.minutes && is_none c.seconds in
          let clock = part_text c.hours 72 (part_text c.minutes 77 (seconds_text c.seconds c.fraction [])) in
          let made_is = some_is made l read in
          record {
            what = w;
            is = record {
              years = y.is;
              months = m.is;
              days = d.is;
              hours = c.hours_in;
              minutes = c.minutes_in;
              seconds = c.seconds_in;
              fraction = c.fraction_in;
              some_part = has_part y.part m.part d.part none clock (rw (← whole) some);
            };
            sign_is = refl;
            written = whole;
            literal_is = sym made_is ∙ same_parts _ _ _ _ _ _ _ _ _ y.value_is m.value_is d.value_is c.value_is;
          }
    ]

pub record IsDurationTaken (text : List ℕ) (l : DurationLiteral) : Type 0 where
  pub what : WrittenDuration
  pub is : IsWrittenDuration what
  pub text_is : text ≡ duration_text what
  pub literal_is : l ≡ parts_of_written what

signed_text : (negative : Bool) (w : WrittenDuration) → w.negative ≡ negative → behind_sign negative (80 ∷ parts_text w) ≡ duration_text w
signed_text negative w e = rw e refl

pub duration-takes : (text : List ℕ) (l : DurationLiteral) → duration text ≡ Some l → IsDurationTaken text l
unfolding duration
duration-takes text l e =
    let sign = minus_at text in
    let p = bind_some (after 80 sign.1) (λ parts. parts_of sign.0 parts) l e in
    let taken = parts_of-takes sign.0 p.0 l p.2 in
    record {
      what = taken.what;
      is = taken.is;
      text_is = minus_at-takes text ∙ ap (behind_sign sign.0) (after-takes 80 sign.1 p.0 p.1 ∙ ap (λ xs. 80 ∷ xs) taken.written) ∙ signed_text sign.0 taken.what taken.sign_is;
      literal_is = taken.literal_is;
    }
