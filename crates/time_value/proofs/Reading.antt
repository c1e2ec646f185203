-- What is written is read: the readers of the pieces, and then those of the literals.
use Rattle.std.proofs.Common.{◌≡◌, ℕ, suc, ◌+◌, ◌*◌, ◌/◌, ◌%◌, ◌<◌, ◌≤◌, ◌++◌, Bool, true, false, not, nat_eq, nat_le, nat_lt, List, [], ◌∷◌, length, Option, Some, None, refl, ◌∙◌, arith}
use Rattle.std.specs.Prelude.{is_none, if◌then◌else◌}
use Rattle.std.specs.Char.{is_ascii_digit}
use Rattle.std.specs.List.{prefix_len}
use Rattle.std.proofs.lemmas.List.{take_at, drop_at}
use Rattle.std.proofs.lemmas.Bool.Decides.{nat_tests}
use Rattle.time_value.specs.declared.literal.LiteralDate.{LiteralDate}
use Rattle.time_value.specs.declared.literal.LiteralTime.{LiteralTime}
use Rattle.time_value.specs.declared.literal.MomentKind.{MomentKind}
use Rattle.time_value.specs.declared.literal.MomentKind.TheVariants as kinds
use Rattle.time_value.specs.Digits.{AreDigits, number, after, minus_at, two_digits, digits_at, fraction_at}
use Rattle.time_value.proofs.Numbers.{pair_value}
use Rattle.time_value.specs.Literal.{begins_with, is_year, is_hour, year_value, year_of, year_at, month_at, below_sixty, time_at, zone_minutes, zone_of, in_zone, year_part, month_part, day_part, time_part, literal_at, literal}
use Rattle.time_value.specs.Spelling.{Zone, NoZone, Utc, Ahead, Behind, Written, IsWritten, IsZone, IsZoneTime, IsFractionText, pair, year_text, fraction_text, time_text, zone_text, text_of, is_written_hour, fraction_value, zone_value, written_time, literal_of}

digit_of : (n : ℕ) → n ≤ 9 → is_ascii_digit (48 + n) ≡ true
digit_of n high = grind (arith, nat_tests)

pub two_digits-pair : (n : ℕ) (rest : List ℕ) → n < 100 → two_digits (pair n rest) ≡ Some (n, rest)
unfolding two_digits
two_digits-pair n rest below =
    let tens : is_ascii_digit (48 + n / 10) ≡ true = digit_of (n / 10) (omega arith) in
    let ones : is_ascii_digit (48 + n % 10) ≡ true = digit_of (n % 10) (omega arith) in
    let whole : number ((48 + n / 10) ∷ (48 + n % 10) ∷ []) ≡ n = pair_value (48 + n / 10) (48 + n % 10) (omega arith) (omega arith) (omega arith) (omega arith) ∙ omega arith in
    rw (tens, ones, whole) refl

month_at-pair : (n : ℕ) (rest : List ℕ) → 1 ≤ n → n ≤ 12 → month_at (pair n rest) ≡ Some (n, rest)
unfolding month_at
month_at-pair n rest low high =
    let at_least : nat_le 1 n ≡ true = grind (arith, nat_tests) in
    let at_most : nat_le n 12 ≡ true = grind (arith, nat_tests) in
    rw (two_digits-pair n rest (omega arith), at_least, at_most) refl

below_sixty-pair : (n : ℕ) (rest : List ℕ) → n < 60 → below_sixty (pair n rest) ≡ Some (n, rest)
unfolding below_sixty
below_sixty-pair n rest below =
    let test : nat_lt n 60 ≡ true = grind (arith, nat_tests) in
    rw (two_digits-pair n rest (omega arith), test) refl

-- a digit at the front
abbrev pub begins_with_digit : List ℕ → Bool
begins_with_digit [] = false
begins_with_digit (c ∷ rest) = is_ascii_digit c

prefix_len-none : (rest : List ℕ) → begins_with_digit rest ≡ false → prefix_len is_ascii_digit rest ≡ 0
prefix_len-none [] other = refl
prefix_len-none (c ∷ rest) other = rw other refl

digit_passes : (digit : ℕ) (digits : List ℕ) → AreDigits (digit ∷ digits) → is_ascii_digit digit ≡ true
digit_passes digit digits all = let here = all 0 0 (omega arith) in grind (arith, nat_tests)

prefix_len-run : (digits rest : List ℕ) → AreDigits digits → begins_with_digit rest ≡ false → prefix_len is_ascii_digit (digits ++ rest) ≡ length digits
prefix_len-run [] rest all other = prefix_len-none rest other
prefix_len-run (digit ∷ digits) rest all other =
    let more = prefix_len-run digits rest (λ k d within. all (suc k) d (omega arith)) other in
    rw (digit_passes digit digits all) (omega (arith, more))

pub digits_at-run : (digits rest : List ℕ) → AreDigits digits → begins_with_digit rest ≡ false → digits_at (digits ++ rest) ≡ (digits, rest)
unfolding digits_at
digits_at-run digits rest all other =
    rw (prefix_len-run digits rest all other, take_at digits rest (length digits) refl, drop_at digits rest (length digits) refl) refl

minus_at-digits : (digits rest : List ℕ) → AreDigits digits → is_year digits ≡ true → minus_at (digits ++ rest) ≡ (false, digits ++ rest)
unfolding minus_at
minus_at-digits [] rest all named = absurd (cc)
minus_at-digits (digit ∷ digits) rest all named =
    let here = all 0 0 (omega arith) in
    let other : nat_eq digit 45 ≡ false = grind (arith, nat_tests) in
    rw other refl

minus_at-text : (negative : Bool) (digits rest : List ℕ) → AreDigits digits → is_year digits ≡ true → minus_at (if negative then 45 ∷ (digits ++ rest) else digits ++ rest) ≡ (negative, digits ++ rest)
unfolding minus_at
minus_at-text true digits rest all named = refl
minus_at-text false digits rest all named = minus_at-digits digits rest all named

year_of-digits : (negative : Bool) (digits : List ℕ) → is_year digits ≡ true → year_of negative digits ≡ Some (year_value negative digits)
unfolding year_of
year_of-digits negative digits named = rw named refl

year_at-text : (w : Written) (rest : List ℕ) → IsWritten w → begins_with_digit rest ≡ false → year_at (year_text w rest) ≡ Some (year_value w.negative w.year, rest)
unfolding year_at
year_at-text w rest is other =
    rw (minus_at-text w.negative w.year rest is.digits is.year, digits_at-run w.year rest is.digits other, year_of-digits w.negative w.year is.year) refl

pub fraction_at-text : (fraction : Option (List ℕ)) (rest : List ℕ) → IsFractionText fraction → begins_with_digit rest ≡ false → begins_with 46 rest ≡ false
    → fraction_at (fraction_text fraction rest) ≡ Some (fraction_value fraction, rest)
unfolding fraction_at
fraction_at-text None [] is other point = refl
fraction_at-text None (c ∷ rest) is other point = rw point refl
fraction_at-text (Some []) rest is other point = absurd is
fraction_at-text (Some (digit ∷ digits)) rest is other point = rw (digits_at-run (digit ∷ digits) rest is other) refl

begins_with-fraction : (fraction : Option (List ℕ)) (rest : List ℕ) → begins_with 46 rest ≡ false → not (begins_with 46 (fraction_text fraction rest)) ≡ is_none fraction
begins_with-fraction None rest point = rw point refl
begins_with-fraction (Some digits) rest point = refl

hour_bound : (w : Written) → is_written_hour w ≡ true → w.hour ≤ 24
hour_bound w is = grind (arith, nat_tests)

is_hour-text : (w : Written) (rest : List ℕ) → IsWritten w → begins_with 46 rest ≡ false → is_hour w.hour w.minute w.second (fraction_text w.fraction rest) ≡ true
is_hour-text w rest is point = rw (begins_with-fraction w.fraction rest point) is.hour

time_at-text : (w : Written) (rest : List ℕ) → IsWritten w → begins_with_digit rest ≡ false → begins_with 46 rest ≡ false
    → time_at (time_text w rest) ≡ Some (written_time w, rest)
unfolding time_at after
time_at-text w rest is other point =
    rw (
      two_digits-pair w.hour (58 ∷ pair w.minute (58 ∷ pair w.second (fraction_text w.fraction rest))) (omega (arith, hour_bound w is.hour)),
      below_sixty-pair w.minute (58 ∷ pair w.second (fraction_text w.fraction rest)) is.minute,
      below_sixty-pair w.second (fraction_text w.fraction rest) is.second,
      fraction_at-text w.fraction rest is.fraction other point,
      is_hour-text w rest is point,
    ) refl

zone_minutes-text : (hours minutes : ℕ) → IsZoneTime hours minutes → zone_minutes (pair hours (58 ∷ pair minutes [])) ≡ Some (hours * 60 + minutes)
unfolding zone_minutes after
zone_minutes-text hours minutes is =
    let test : nat_le (hours * 60 + minutes) 840 ≡ true = grind (arith, nat_tests, is.total_in) in
    rw (two_digits-pair hours (58 ∷ pair minutes []) (omega (arith, is.total_in)), below_sixty-pair minutes [] is.minutes_in, test) refl

zone_of-text : (zone : Zone) → IsZone zone → zone_of (zone_text zone) ≡ Some (zone_value zone)
unfolding zone_of
zone_of-text NoZone is = refl
zone_of-text Utc is = refl
zone_of-text (Ahead hours minutes) is = rw (zone_minutes-text hours minutes is) refl
zone_of-text (Behind hours minutes) is = rw (zone_minutes-text hours minutes is) refl

no_digit : (zone : Zone) → begins_with_digit (zone_text zone) ≡ false
no_digit NoZone = refl
no_digit Utc = refl
no_digit (Ahead hours minutes) = refl
no_digit (Behind hours minutes) = refl

no_point : (zone : Zone) → begins_with 46 (zone_text zone) ≡ false
no_point NoZone = refl
no_point Utc = refl
no_point (Ahead hours minutes) = refl
no_point (Behind hours minutes) = refl

in_zone-text : (date : LiteralDate) (time : LiteralTime) (zone : Zone) → IsZone zone → in_zone date time (zone_text zone) ≡ Some (record { date = date; time = time; zone = zone_value zone })
unfolding in_zone
in_zone-text date time zone is = rw (zone_of-text zone is) refl

-- each literal is read to its fields
pub literal-text : (kind : MomentKind) (w : Written) → IsWritten w → literal kind (text_of kind w) ≡ Some (literal_of kind w)
unfolding literal_at year_part month_part day_part time_part after
literal-text kinds.DateTime w is =
    rw (
      year_at-text w (45 ∷ pair w.month (45 ∷ pair w.day (84 ∷ time_text w (zone_text w.zone)))) is refl,
      month_at-pair w.month (45 ∷ pair w.day (84 ∷ time_text w (zone_text w.zone))) is.month_low is.month_high,
      two_digits-pair w.day (84 ∷ time_text w (zone_text w.zone)) is.day,
      time_at-text w (zone_text w.zone) is (no_digit w.zone) (no_point w.zone),
    ) (in_zone-text _ _ w.zone is.zone)
literal-text kinds.Date w is =
    rw (year_at-text w (45 ∷ pair w.month (45 ∷ pair w.day (zone_text w.zone))) is refl, month_at-pair w.month (45 ∷ pair w.day (zone_text w.zone)) is.month_low is.month_high, two_digits-pair w.day (zone_text w.zone) is.day) (in_zone-text _ _ w.zone is.zone)
literal-text kinds.Time w is = rw (time_at-text w (zone_text w.zone) is (no_digit w.zone) (no_point w.zone)) (in_zone-text _ _ w.zone is.zone)
literal-text kinds.YearMonth w is =
    rw (year_at-text w (45 ∷ pair w.month (zone_text w.zone)) is refl, month_at-pair w.month (zone_text w.zone) is.month_low is.month_high) (in_zone-text _ _ w.zone is.zone)
literal-text kinds.Year w is = rw (year_at-text w (zone_text w.zone) is (no_digit w.zone)) (in_zone-text _ _ w.zone is.zone)
literal-text kinds.MonthDay w is =
    rw (month_at-pair w.month (45 ∷ pair w.day (zone_text w.zone)) is.month_low is.month_high, two_digits-pair w.day (zone_text w.zone) is.day) (in_zone-text _ _ w.zone is.zone)
literal-text kinds.Day w is = rw (two_digits-pair w.day (zone_text w.zone) is.day) (in_zone-text _ _ w.zone is.zone)
literal-text kinds.Month w is = rw (month_at-pair w.month (zone_text w.zone) is.month_low is.month_high) (in_zone-text _ _ w.zone is.zone)
