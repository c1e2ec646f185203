-- What is read as a literal was written as one.
use Rattle.std.proofs.Common.{◌≡◌, ℕ, ◌<◌, ◌≤◌, ◌++◌, ◌&&◌, ◌||◌, Bool, true, false, nat_eq, nat_lt, List, [], ◌∷◌, Option, Some, None, refl, sym, ap, subst, ◌∙◌, arith, rules, ℤ}
use Rattle.std.specs.Prelude.{is_none, if◌then◌else◌}
use Rattle.std.proofs.lemmas.List.Elements.{All-from_recursion}
use Rattle.std.specs.Char.{IsAsciiDigit}
use Rattle.time_value.specs.declared.literal.Year.{Year}
use Rattle.time_value.specs.declared.literal.LiteralDate.{LiteralDate}
use Rattle.time_value.specs.declared.literal.LiteralTime.{LiteralTime}
use Rattle.time_value.specs.declared.literal.Literal.{Literal}
use Rattle.time_value.specs.declared.literal.Shape.{Shape}
use Rattle.time_value.specs.declared.literal.MomentKind.{MomentKind}
use Rattle.time_value.specs.declared.literal.MomentKind.TheVariants as kinds
use Rattle.time_value.specs.Digits.{◌>>=◌, AreDigits, after, two_digits, fraction_at}
use Rattle.time_value.specs.Literal.{is_year, is_hour, year_value, month_at, below_sixty, time_at, zone_of, in_zone, year_1972, midnight, first_midnight, shape_of, year_part, month_part, day_part, time_part, literal_at, literal}
use Rattle.time_value.specs.Spelling.{Zone, Written, IsWritten, IsZone, IsFractionText, IsTaken, pair, fraction_text, zone_text, text_of, literal_of, fraction_value, zone_value}
use Rattle.time_value.proofs.Taking.{bind_some, guard_some, some_is, two_digits-takes, month_at-takes, below_sixty-takes, after-takes, behind_sign, year_at-takes, fraction_at-takes, zone_of-takes}

pub record TimeTaken (text : List ℕ) (value : LiteralTime) (rest : List ℕ) : Type 0 where
  pub fraction : Option (List ℕ)
  pub is : IsFractionText fraction
  pub hour : nat_lt value.hour 24 || ((nat_eq value.hour 24) && (nat_eq value.minute 0) && (nat_eq value.second 0) && is_none fraction) ≡ true
  pub minute : value.minute < 60
  pub second : value.second < 60
  pub written : text ≡ pair value.hour (58 ∷ pair value.minute (58 ∷ pair value.second (fraction_text fraction rest)))
  pub fraction_is : value.fraction ≡ fraction_value fraction

time_at-takes : (text : List ℕ) (found : LiteralTime × List ℕ) → time_at text ≡ Some found → TimeTaken text found.0 found.1
unfolding time_at
time_at-takes text found e =
    let h = bind_some (two_digits text) (λ hour. after 58 hour.1 >>= λ past_hour. below_sixty past_hour >>= λ minute. after 58 minute.1 >>= λ past_minute. below_sixty past_minute >>= λ second. fraction_at second.1 >>= λ fraction. if is_hour hour.0 minute.0 second.0 second.1 then Some (record { hour = hour.0; minute = minute.0; second = second.0; fraction = fraction.0 }, fraction.1) else None) found e in
    let a = bind_some (after 58 h.0.1) (λ past_hour. below_sixty past_hour >>= λ minute. after 58 minute.1 >>= λ past_minute. below_sixty past_minute >>= λ second. fraction_at second.1 >>= λ fraction. if is_hour h.0.0 minute.0 second.0 second.1 then Some (record { hour = h.0.0; minute = minute.0; second = second.0; fraction = fraction.0 }, fraction.1) else None) found h.2 in
    let m = bind_some (below_sixty a.0) (λ minute. after 58 minute.1 >>= λ past_minute. below_sixty past_minute >>= λ second. fraction_at second.1 >>= λ fraction. if is_hour h.0.0 minute.0 second.0 second.1 then Some (record { hour = h.0.0; minute = minute.0; second = second.0; fraction = fraction.0 }, fraction.1) else None) found a.2 in
    let b = bind_some (after 58 m.0.1) (λ past_minute. below_sixty past_minute >>= λ second. fraction_at second.1 >>= λ fraction. if is_hour h.0.0 m.0.0 second.0 second.1 then Some (record { hour = h.0.0; minute = m.0.0; second = second.0; fraction = fraction.0 }, fraction.1) else None) found m.2 in
    let s = bind_some (below_sixty b.0) (λ second. fraction_at second.1 >>= λ fraction. if is_hour h.0.0 m.0.0 second.0 second.1 then Some (record { hour = h.0.0; minute = m.0.0; second = second.0; fraction = fraction.0 }, fraction.1) else None) found b.2 in
    let f = bind_some (fraction_at s.0.1) (λ fraction. if is_hour h.0.0 m.0.0 s.0.0 s.0.1 then Some (record { hour = h.0.0; minute = m.0.0; second = s.0.0; fraction = fraction.0 }, fraction.1) else None) found s.2 in
    let value : LiteralTime = record { hour = h.0.0; minute = m.0.0; second = s.0.0; fraction = f.0.0 } in
    let g = guard_some (is_hour h.0.0 m.0.0 s.0.0 s.0.1) (value, f.0.1) found f.2 in
    let hours = two_digits-takes text h.0 h.1 in
    let minutes = below_sixty-takes a.0 m.0 m.1 in
    let seconds = below_sixty-takes b.0 s.0 s.1 in
    let fractions = fraction_at-takes s.0.1 f.0 f.1 in
    let past_minute : m.0.1 ≡ 58 ∷ pair s.0.0 (fraction_text fractions.fraction f.0.1) = after-takes 58 m.0.1 b.0 b.1 ∙ ap (λ xs. 58 ∷ xs) (seconds.written ∙ ap (pair s.0.0) fractions.written) in
    let past_hour : h.0.1 ≡ 58 ∷ pair m.0.0 (58 ∷ pair s.0.0 (fraction_text fractions.fraction f.0.1)) = after-takes 58 h.0.1 a.0 a.1 ∙ ap (λ xs. 58 ∷ xs) (minutes.written ∙ ap (pair m.0.0) past_minute) in
    let taken : TimeTaken text value f.0.1 = record {
      fraction = fractions.fraction;
      is = fractions.is;
      hour = rw (← fractions.point) g.0;
      minute = omega (arith, minutes.at_most);
      second = omega (arith, seconds.at_most);
      written = hours.written ∙ ap (pair h.0.0) past_hour;
      fraction_is = fractions.value_is;
    } in
    let P : LiteralTime × List ℕ → Type 0 = λ found. TimeTaken text found.0 found.1 in
    subst P g.1 taken

pub record InZone (date : LiteralDate) (time : LiteralTime) (text : List ℕ) (l : Literal) : Type 0 where
  pub zone : Zone
  pub is : IsZone zone
  pub written : text ≡ zone_text zone
  pub literal_is : l ≡ record { date = date; time = time; zone = zone_value zone }

in_zone-takes : (date : LiteralDate) (time : LiteralTime) (text : List ℕ) (l : Literal) → in_zone date time text ≡ Some l → InZone date time text l
unfolding in_zone
in_zone-takes date time text l e =
    let z = bind_some (zone_of text) (λ zone. Some (record { date = date; time = time; zone = zone })) l e in
    let taken = zone_of-takes text z.0 z.1 in
    let made : Option ℤ → Literal = λ zone. record { date = date; time = time; zone = zone } in
    record { zone = taken.zone; is = taken.is; written = taken.written; literal_is = sym (some_is _ _ z.2) ∙ ap made taken.value_is }

-- 1972, where no year is written
digits_1972 : AreDigits (49 ∷ 57 ∷ 55 ∷ 50 ∷ [])
digits_1972 = All-from_recursion IsAsciiDigit (49 ∷ 57 ∷ 55 ∷ 50 ∷ []) (search rules)

named_1972 : is_year (49 ∷ 57 ∷ 55 ∷ 50 ∷ []) ≡ true
named_1972 = refl

same_fields : (d other_date : LiteralDate) (t other_time : LiteralTime) (z : Option ℤ) → d ≡ other_date → t ≡ other_time
    → ◌≡◌ {A = Literal} (record { date = d; time = t; zone = z }) (record { date = other_date; time = other_time; zone = z })
same_fields d other_date t other_time z e f =
    let with_date : LiteralDate → Literal = λ date. record { date = date; time = t; zone = z } in
    let with_time : LiteralTime → Literal = λ time. record { date = other_date; time = time; zone = z } in
    ap with_date e ∙ ap with_time f

time_is : (value : LiteralTime) (fraction : Option (List ℕ)) → value.fraction ≡ fraction_value fraction
    → value ≡ record { hour = value.hour; minute = value.minute; second = value.second; fraction = fraction_value fraction }
time_is value fraction e =
    let with_fraction : Option ℕ → LiteralTime = λ fraction. record { hour = value.hour; minute = value.minute; second = value.second; fraction = fraction } in
    ap with_fraction e

-- what is written of each field, and what it comes to
abbrev pub year_piece : Bool → Bool → Bool → List ℕ → List ℕ → List ℕ
year_piece is_written is_before negative digits rest = if is_written then behind_sign negative (digits ++ rest) else (if is_before then 45 ∷ rest else rest)

pub record YearTaken (is_written is_before : Bool) (text : List ℕ) (value : Year) (rest : List ℕ) : Type 0 where
  pub negative : Bool
  pub year : List ℕ
  pub digits : AreDigits year
  pub named : is_year year ≡ true
  pub written : text ≡ year_piece is_written is_before negative year rest
  pub value_is : value ≡ (if is_written then year_value negative year else year_1972)

year_part-takes : (is_written is_before : Bool) (text : List ℕ) (found : Year × List ℕ) → year_part is_written is_before text ≡ Some found → YearTaken is_written is_before text found.0 found.1
unfolding year_part
year_part-takes true is_before text found e =
    let years = year_at-takes text found e in
    record { negative = years.negative; year = years.year; digits = years.digits; named = years.named; written = years.written; value_is = years.value_is }
year_part-takes false true text found e =
    let a = bind_some (after 45 text) (λ rest. Some (year_1972, rest)) found e in
    let same = some_is _ _ a.2 in
    record {
      negative = false;
      year = 49 ∷ 57 ∷ 55 ∷ 50 ∷ [];
      digits = digits_1972;
      named = named_1972;
      written = after-takes 45 text a.0 a.1 ∙ ap (λ (f : Year × List ℕ). 45 ∷ f.1) same;
      value_is = sym (ap (λ (f : Year × List ℕ). f.0) same);
    }
year_part-takes false false text found e =
    let same = some_is _ _ e in
    record {
      negative = false;
      year = 49 ∷ 57 ∷ 55 ∷ 50 ∷ [];
      digits = digits_1972;
      named = named_1972;
      written = ap (λ (f : Year × List ℕ). f.1) same;
      value_is = sym (ap (λ (f : Year × List ℕ). f.0) same);
    }

abbrev pub month_piece : Bool → Bool → ℕ → List ℕ → List ℕ
month_piece is_written is_before month rest = if is_written then 45 ∷ pair month rest else (if is_before then 45 ∷ rest else rest)

pub record MonthTaken (is_written is_before : Bool) (text : List ℕ) (value : ℕ) (rest : List ℕ) : Type 0 where
  pub month : ℕ
  pub low : 1 ≤ month
  pub high : month ≤ 12
  pub written : text ≡ month_piece is_written is_before month rest
  pub value_is : value ≡ (if is_written then month else 1)

month_part-takes : (is_written is_before : Bool) (text : List ℕ) (found : ℕ × List ℕ) → month_part is_written is_before text ≡ Some found → MonthTaken is_written is_before text found.0 found.1
unfolding month_part
month_part-takes true is_before text found e =
    let a = bind_some (after 45 text) (λ rest. month_at rest) found e in
    let months = month_at-takes a.0 found a.2 in
    record { month = found.0; low = months.at_least; high = months.at_most; written = after-takes 45 text a.0 a.1 ∙ ap (λ xs. 45 ∷ xs) months.written; value_is = refl }
month_part-takes false true text found e =
    let a = bind_some (after 45 text) (λ rest. Some (1, rest)) found e in
    let same = some_is _ _ a.2 in
    record { month = 1; low = omega arith; high = omega arith; written = after-takes 45 text a.0 a.1 ∙ ap (λ (f : ℕ × List ℕ). 45 ∷ f.1) same; value_is = sym (ap (λ (f : ℕ × List ℕ). f.0) same) }
month_part-takes false false text found e =
    let same = some_is _ _ e in
    record { month = 1; low = omega arith; high = omega arith; written = ap (λ (f : ℕ × List ℕ). f.1) same; value_is = sym (ap (λ (f : ℕ × List ℕ). f.0) same) }

abbrev pub day_piece : Bool → ℕ → List ℕ → List ℕ
day_piece is_written day rest = if is_written then 45 ∷ pair day rest else rest

pub record DayTaken (is_written : Bool) (text : List ℕ) (value : ℕ) (rest : List ℕ) : Type 0 where
  pub day : ℕ
  pub below : day < 100
  pub written : text ≡ day_piece is_written day rest
  pub value_is : value ≡ (if is_written then day else 1)

day_part-takes : (is_written : Bool) (text : List ℕ) (found : ℕ × List ℕ) → day_part is_written text ≡ Some found → DayTaken is_written text found.0 found.1
unfolding day_part
day_part-takes true text found e =
    let a = bind_some (after 45 text) (λ rest. two_digits rest) found e in
    let days = two_digits-takes a.0 found a.2 in
    record { day = found.0; below = days.below; written = after-takes 45 text a.0 a.1 ∙ ap (λ xs. 45 ∷ xs) days.written; value_is = refl }
day_part-takes false text found e =
    let same = some_is _ _ e in
    record { day = 1; below = omega arith; written = ap (λ (f : ℕ × List ℕ). f.1) same; value_is = sym (ap (λ (f : ℕ × List ℕ). f.0) same) }

-- the time of the written fields
abbrev pub clock_of : ℕ → ℕ → ℕ → Option (List ℕ) → LiteralTime
clock_of hour minute second fraction = record { hour = hour; minute = minute; second = second; fraction = fraction_value fraction }

abbrev pub clock_text : ℕ → ℕ → ℕ → Option (List ℕ) → List ℕ → List ℕ
clock_text hour minute second fraction rest = pair hour (58 ∷ pair minute (58 ∷ pair second (fraction_text fraction rest)))

abbrev pub time_piece : Bool → Bool → List ℕ → List ℕ → List ℕ
time_piece is_written is_behind text rest = if is_written then (if is_behind then 84 ∷ text else text) else rest

abbrev pub time_value : Bool → Bool → LiteralTime → LiteralTime
time_value is_written is_behind time = if is_written then (if is_behind then time else first_midnight time) else midnight

pub record PartTaken (is_written is_behind : Bool) (text : List ℕ) (value : LiteralTime) (rest : List ℕ) : Type 0 where
  pub hour : ℕ
  pub minute : ℕ
  pub second : ℕ
  pub fraction : Option (List ℕ)
  pub is : IsFractionText fraction
  pub hour_is : nat_lt hour 24 || ((nat_eq hour 24) && (nat_eq minute 0) && (nat_eq second 0) && is_none fraction) ≡ true
  pub minute_is : minute < 60
  pub second_is : second < 60
  pub written : text ≡ time_piece is_written is_behind (clock_text hour minute second fraction rest) rest
  pub value_is : value ≡ time_value is_written is_behind (clock_of hour minute second fraction)

time_part-takes : (is_written is_behind : Bool) (text : List ℕ) (found : LiteralTime × List ℕ) → time_part is_written is_behind text ≡ Some found → PartTaken is_written is_behind text found.0 found.1
unfolding time_part
time_part-takes true true text found e =
    let a = bind_some (after 84 text) (λ rest. time_at rest) found e in
    let times = time_at-takes a.0 found a.2 in
    record {
      hour = found.0.hour;
      minute = found.0.minute;
      second = found.0.second;
      fraction = times.fraction;
      is = times.is;
      hour_is = times.hour;
      minute_is = times.minute;
      second_is = times.second;
      written = after-takes 84 text a.0 a.1 ∙ ap (λ xs. 84 ∷ xs) times.written;
      value_is = time_is found.0 _ times.fraction_is;
    }
time_part-takes true false text found e =
    let t = bind_some (time_at text) (λ time. Some (first_midnight time.0, time.1)) found e in
    let times = time_at-takes text t.0 t.1 in
    let same = some_is _ _ t.2 in
    record {
      hour = t.0.0.hour;
      minute = t.0.0.minute;
      second = t.0.0.second;
      fraction = times.fraction;
      is = times.is;
      hour_is = times.hour;
      minute_is = times.minute;
      second_is = times.second;
      written = times.written ∙ ap (λ (f : LiteralTime × List ℕ). clock_text t.0.0.hour t.0.0.minute t.0.0.second times.fraction f.1) same;
      value_is = sym (ap (λ (f : LiteralTime × List ℕ). f.0) same) ∙ ap first_midnight (time_is t.0.0 _ times.fraction_is);
    }
time_part-takes false is_behind text found e =
    let same = some_is _ _ e in
    record {
      hour = 0;
      minute = 0;
      second = 0;
      fraction = None;
      is = tt;
      hour_is = refl;
      minute_is = omega arith;
      second_is = omega arith;
      written = ap (λ (f : LiteralTime × List ℕ). f.1) same;
      value_is = sym (ap (λ (f : LiteralTime × List ℕ). f.0) same);
    }

-- what a literal of a shape writes, and the fields that it comes to
abbrev pub shape_text : Shape → Written → List ℕ
shape_text shape w =
    year_piece shape.year (shape.month || shape.day) w.negative w.year
    (month_piece shape.month shape.day w.month
    (day_piece shape.day w.day
    (time_piece shape.time shape.day (clock_text w.hour w.minute w.second w.fraction (zone_text w.zone)) (zone_text w.zone))))

abbrev pub shape_date : Shape → Written → LiteralDate
shape_date shape w = record {
  year = if shape.year then year_value w.negative w.year else year_1972;
  month = if shape.month then w.month else 1;
  day = if shape.day then w.day else 1;
}

abbrev pub shape_literal : Shape → Written → Literal
shape_literal shape w =
    record { date = shape_date shape w; time = time_value shape.time shape.day (clock_of w.hour w.minute w.second w.fraction); zone = zone_value w.zone }

shape_text-is : (kind : MomentKind) (w : Written) → shape_text (shape_of kind) w ≡ text_of kind w
shape_text-is kinds.DateTime w = refl
shape_text-is kinds.Date w = refl
shape_text-is kinds.Time w = refl
shape_text-is kinds.YearMonth w = refl
shape_text-is kinds.Year w = refl
shape_text-is kinds.MonthDay w = refl
shape_text-is kinds.Day w = refl
shape_text-is kinds.Month w = refl

shape_literal-is : (kind : MomentKind) (w : Written) → shape_literal (shape_of kind) w ≡ literal_of kind w
shape_literal-is kinds.DateTime w = refl
shape_literal-is kinds.Date w = refl
shape_literal-is kinds.Time w = refl
shape_literal-is kinds.YearMonth w = refl
shape_literal-is kinds.Year w = refl
shape_literal-is kinds.MonthDay w = refl
shape_literal-is kinds.Day w = refl
shape_literal-is kinds.Month w = refl

-- the dates of equal fields
same_date : (y y' : Year) (m m' d d' : ℕ) → y ≡ y' → m ≡ m' → d ≡ d' → ◌≡◌ {A = LiteralDate} (record { year = y; month = m; day = d }) (record { year = y'; month = m'; day = d' })
same_date y y' m m' d d' ey em ed =
    let with_year : Year → LiteralDate = λ year. record { year = year; month = m; day = d } in
    let with_month : ℕ → LiteralDate = λ month. record { year = y'; month = month; day = d } in
    let with_day : ℕ → LiteralDate = λ day. record { year = y'; month = m'; day = day } in
    ap with_year ey ∙ ap with_month em ∙ ap with_day ed

pub record ShapeTaken (shape : Shape) (text : List ℕ) (l : Literal) : Type 0 where
  pub what : Written
  pub is : IsWritten what
  pub text_is : text ≡ shape_text shape what
  pub literal_is : l ≡ shape_literal shape what

literal_at-takes : (shape : Shape) (text : List ℕ) (l : Literal) → literal_at shape text ≡ Some l → ShapeTaken shape text l
unfolding literal_at
literal_at-takes shape text l e =
    let y = bind_some (year_part shape.year (shape.month || shape.day) text) (λ year. month_part shape.month shape.day year.1 >>= λ month. day_part shape.day month.1 >>= λ day. time_part shape.time shape.day day.1 >>= λ time. in_zone (record { year = year.0; month = month.0; day = day.0 }) time.0 time.1) l e in
    let m = bind_some (month_part shape.month shape.day y.0.1) (λ month. day_part shape.day month.1 >>= λ day. time_part shape.time shape.day day.1 >>= λ time. in_zone (record { year = y.0.0; month = month.0; day = day.0 }) time.0 time.1) l y.2 in
    let d = bind_some (day_part shape.day m.0.1) (λ day. time_part shape.time shape.day day.1 >>= λ time. in_zone (record { year = y.0.0; month = m.0.0; day = day.0 }) time.0 time.1) l m.2 in
    let t = bind_some (time_part shape.time shape.day d.0.1) (λ time. in_zone (record { year = y.0.0; month = m.0.0; day = d.0.0 }) time.0 time.1) l d.2 in
    let years = year_part-takes shape.year (shape.month || shape.day) text y.0 y.1 in
    let months = month_part-takes shape.month shape.day y.0.1 m.0 m.1 in
    let days = day_part-takes shape.day m.0.1 d.0 d.1 in
    let times = time_part-takes shape.time shape.day d.0.1 t.0 t.1 in
    let zones = in_zone-takes (record { year = y.0.0; month = m.0.0; day = d.0.0 }) t.0.0 t.0.1 l t.2 in
    let w : Written = record {
      negative = years.negative;
      year = years.year;
      month = months.month;
      day = days.day;
      hour = times.hour;
      minute = times.minute;
      second = times.second;
      fraction = times.fraction;
      zone = zones.zone;
    } in
    let at_time = times.written ∙ ap (λ xs. time_piece shape.time shape.day (clock_text w.hour w.minute w.second w.fraction xs) xs) zones.written in
    let at_day = days.written ∙ ap (day_piece shape.day w.day) at_time in
    let at_month = months.written ∙ ap (month_piece shape.month shape.day w.month) at_day in
    record {
      what = w;
      is = record {
        digits = years.digits;
        year = years.named;
        month_low = months.low;
        month_high = months.high;
        day = days.below;
        hour = times.hour_is;
        minute = times.minute_is;
        second = times.second_is;
        fraction = times.is;
        zone = zones.is;
      };
      text_is = years.written ∙ ap (year_piece shape.year (shape.month || shape.day) w.negative w.year) at_month;
      literal_is = zones.literal_is ∙ same_fields _ _ _ _ _ (same_date _ _ _ _ _ _ years.value_is months.value_is days.value_is) times.value_is;
    }

-- what is read as a literal was written as one, with these fields
pub literal-takes : (kind : MomentKind) (text : List ℕ) (l : Literal) → literal kind text ≡ Some l → IsTaken kind text l
literal-takes kind text l e =
    let taken = literal_at-takes (shape_of kind) text l e in
    record { what = taken.what; is = taken.is; text_is = taken.text_is ∙ shape_text-is kind taken.what; literal_is = taken.literal_is ∙ shape_literal-is kind taken.what }
