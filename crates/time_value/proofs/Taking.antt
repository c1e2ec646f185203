-- What is read was written: the readers of the pieces, and then those of the literals.
use Rattle.std.proofs.Common.{◌≡◌, ℕ, ◌+◌, ◌-◌, ◌*◌, ◌/◌, ◌%◌, ◌<◌, ◌≤◌, ◌++◌, ◌⊎◌, inl, inr, subst, ◌&&◌, Bool, true, false, not, nat_eq, nat_le, nat_lt, List, [], ◌∷◌, length, Option, Some, None, refl, sym, ap, ◌∙◌, arith, pos, neg_ℤ, ℤ}
use Rattle.std.specs.Prelude.{is_none, option_map, if◌then◌else◌}
use Rattle.std.specs.Char.{is_ascii_digit}
use Rattle.std.specs.List.{prefix_len}
use Rattle.std.proofs.lemmas.List.{take-append-drop}
use Rattle.std.proofs.lemmas.Bool.Decides.{nat_tests}
use Rattle.time_value.specs.declared.literal.Year.{Year}
use Rattle.time_value.specs.Digits.{◌>>=◌, AreDigits, number, after, minus_at, two_digits, digits_at, nanoseconds, nanoseconds_of, fraction_at}
use Rattle.time_value.specs.Literal.{begins_with, is_year, year_value, year_of, year_at, month_at, below_sixty, zone_minutes, zone_of}
use Rattle.time_value.specs.Spelling.{Zone, NoZone, Utc, Ahead, Behind, IsZone, IsZoneTime, IsFractionText, pair, fraction_text, zone_text, fraction_value, zone_value}
use Rattle.time_value.proofs.Numbers.{AreDigits-prefix, pair_value}

-- a step that comes to a value
pub bind_some : {A B : Type 0} (r : Option A) (f : A → Option B) (y : B) → (r >>= f) ≡ Some y → (x : A) × (r ≡ Some x) × (f x ≡ Some y)
bind_some (Some x) f y e = (x, refl, e)
bind_some None f y e = absurd (cc)

pub some_is : {A : Type 0} (x y : A) → ◌≡◌ {A = Option A} (Some x) (Some y) → x ≡ y
some_is x y e = cc

-- a test that lets a value through
pub guard_some : {A : Type 0} (b : Bool) (x y : A) → (if b then Some x else None) ≡ Some y → (b ≡ true) × (x ≡ y)
guard_some true x y e = (refl, some_is x y e)
guard_some false x y e = absurd (cc)

-- one of two ways
pub chosen : {A : Type 0} (b : Bool) (x y z : A) → (if b then x else y) ≡ z → ((b ≡ true) × (x ≡ z)) ⊎ ((b ≡ false) × (y ≡ z))
chosen true x y z e = inl (refl, e)
chosen false x y z e = inr (refl, e)

pub same_number : (a b : ℕ) → nat_eq a b ≡ true → a ≡ b
same_number a b e = grind (arith, nat_tests)

both_true : (a b : Bool) → a && b ≡ true → (a ≡ true) × (b ≡ true)
both_true true true e = (refl, refl)
both_true true false e = absurd (cc)
both_true false b e = absurd (cc)

digit_bounds : (c : ℕ) → is_ascii_digit c ≡ true → (48 ≤ c) × (c ≤ 57)
digit_bounds c e = grind (arith, nat_tests)

pub record PairTaken (text : List ℕ) (n : ℕ) (rest : List ℕ) : Type 0 where
  pub below : n < 100
  pub written : text ≡ pair n rest

pair_taken : (a b n : ℕ) (rest : List ℕ) → 48 ≤ a → a ≤ 57 → 48 ≤ b → b ≤ 57 → n ≡ (a - 48) * 10 + (b - 48) → PairTaken (a ∷ b ∷ rest) n rest
pair_taken a b n rest a_low a_high b_low b_high e =
    let tens : a ≡ 48 + n / 10 = omega arith in
    let ones : b ≡ 48 + n % 10 = omega arith in
    record { below = omega arith; written = ap (λ x. x ∷ b ∷ rest) tens ∙ ap (λ x. (48 + n / 10) ∷ x ∷ rest) ones }

pub two_digits-takes : (text : List ℕ) (found : ℕ × List ℕ) → two_digits text ≡ Some found → PairTaken text found.0 found.1
unfolding two_digits
two_digits-takes [] found e = absurd (cc)
two_digits-takes (a ∷ []) found e = absurd (cc)
two_digits-takes (a ∷ b ∷ rest) found e =
    let g = guard_some (is_ascii_digit a && is_ascii_digit b) (number (a ∷ b ∷ []), rest) found e in
    let digits = both_true (is_ascii_digit a) (is_ascii_digit b) g.0 in
    let tens = digit_bounds a digits.0 in
    let ones = digit_bounds b digits.1 in
    let taken = pair_taken a b (number (a ∷ b ∷ [])) rest tens.0 tens.1 ones.0 ones.1 (pair_value a b tens.0 tens.1 ones.0 ones.1) in
    let P : ℕ × List ℕ → Type 0 = λ found. PairTaken (a ∷ b ∷ rest) found.0 found.1 in
    subst P g.1 taken

pub record PairBetween (low high : ℕ) (text : List ℕ) (n : ℕ) (rest : List ℕ) : Type 0 where
  pub at_least : low ≤ n
  pub at_most : n ≤ high
  pub written : text ≡ pair n rest

pub month_at-takes : (text : List ℕ) (found : ℕ × List ℕ) → month_at text ≡ Some found → PairBetween 1 12 text found.0 found.1
unfolding month_at
month_at-takes text found e =
    let s = bind_some (two_digits text) (λ month. if nat_le 1 month.0 && nat_le month.0 12 then Some month else None) found e in
    let g = guard_some (nat_le 1 s.0.0 && nat_le s.0.0 12) s.0 found s.2 in
    let bounds = both_true (nat_le 1 s.0.0) (nat_le s.0.0 12) g.0 in
    let low : 1 ≤ s.0.0 = grind (arith, nat_tests, bounds.0) in
    let high : s.0.0 ≤ 12 = grind (arith, nat_tests, bounds.1) in
    let P : ℕ × List ℕ → Type 0 = λ found. PairBetween 1 12 text found.0 found.1 in
    subst P g.1 (record { at_least = low; at_most = high; written = (two_digits-takes text s.0 s.1).written })

pub below_sixty-takes : (text : List ℕ) (found : ℕ × List ℕ) → below_sixty text ≡ Some found → PairBetween 0 59 text found.0 found.1
unfolding below_sixty
below_sixty-takes text found e =
    let s = bind_some (two_digits text) (λ count. if nat_lt count.0 60 then Some count else None) found e in
    let g = guard_some (nat_lt s.0.0 60) s.0 found s.2 in
    let high : s.0.0 ≤ 59 = grind (arith, nat_tests, g.0) in
    let P : ℕ × List ℕ → Type 0 = λ found. PairBetween 0 59 text found.0 found.1 in
    subst P g.1 (record { at_least = omega arith; at_most = high; written = (two_digits-takes text s.0 s.1).written })

pub after-takes : (character : ℕ) (text rest : List ℕ) → after character text ≡ Some rest → text ≡ character ∷ rest
unfolding after
after-takes character [] rest e = absurd (cc)
after-takes character (c ∷ others) rest e =
    let g = guard_some (nat_eq c character) others rest e in
    ap (λ x. x ∷ others) (same_number c character g.0) ∙ ap (λ xs. character ∷ xs) g.1

-- a text behind a minus sign or not
abbrev pub behind_sign : Bool → List ℕ → List ℕ
behind_sign negative text = if negative then 45 ∷ text else text

-- a text with a sign, put together again
abbrev with_sign : Bool × List ℕ → List ℕ
with_sign sign = behind_sign sign.0 sign.1

minus_case : (c : ℕ) (rest : List ℕ) (b : Bool) → nat_eq c 45 ≡ b → c ∷ rest ≡ with_sign (if b then (true, rest) else (false, c ∷ rest))
minus_case c rest true e = ap (λ x. x ∷ rest) (same_number c 45 e)
minus_case c rest false e = refl

pub minus_at-takes : (text : List ℕ) → text ≡ behind_sign (minus_at text).0 (minus_at text).1
unfolding minus_at
minus_at-takes [] = refl
minus_at-takes (c ∷ rest) = minus_case c rest (nat_eq c 45) refl

pub digits_at-whole : (text : List ℕ) → text ≡ (digits_at text).0 ++ (digits_at text).1
unfolding digits_at
digits_at-whole text = sym (take-append-drop (prefix_len is_ascii_digit text) text)

pub digits_at-digits : (text : List ℕ) → AreDigits (digits_at text).0
unfolding digits_at
digits_at-digits text = AreDigits-prefix text

pub record YearTaken (text : List ℕ) (value : Year) (rest : List ℕ) : Type 0 where
  pub negative : Bool
  pub year : List ℕ
  pub digits : AreDigits year
  pub named : is_year year ≡ true
  pub written : text ≡ behind_sign negative (year ++ rest)
  pub value_is : value ≡ year_value negative year

pub year_at-takes : (text : List ℕ) (found : Year × List ℕ) → year_at text ≡ Some found → YearTaken text found.0 found.1
unfolding year_at year_of
year_at-takes text found e =
    let sign = minus_at text in
    let digits = digits_at sign.1 in
    let s = bind_some (year_of sign.0 digits.0) (λ year. Some (year, digits.1)) found e in
    let g = guard_some (is_year digits.0) (year_value sign.0 digits.0) s.0 s.1 in
    let whole = minus_at-takes text ∙ ap (behind_sign sign.0) (digits_at-whole sign.1) in
    let taken : YearTaken text s.0 digits.1 = record {
      negative = sign.0;
      year = digits.0;
      digits = digits_at-digits sign.1;
      named = g.0;
      written = whole;
      value_is = sym g.1;
    } in
    let P : Year × List ℕ → Type 0 = λ found. YearTaken text found.0 found.1 in
    subst P (some_is _ _ s.2) taken

pub record FractionTaken (text : List ℕ) (value : Option ℕ) (rest : List ℕ) : Type 0 where
  pub fraction : Option (List ℕ)
  pub is : IsFractionText fraction
  pub written : text ≡ fraction_text fraction rest
  pub value_is : value ≡ fraction_value fraction
  pub point : not (begins_with 46 text) ≡ is_none fraction

nanoseconds_of-takes : (run : List ℕ × List ℕ) (found : Option ℕ × List ℕ) → AreDigits run.0 → nanoseconds_of run ≡ Some found → FractionTaken (46 ∷ (run.0 ++ run.1)) found.0 found.1
nanoseconds_of-takes ([], rest) found all e = absurd (cc)
nanoseconds_of-takes (digit ∷ digits, rest) found all e =
    let taken : FractionTaken (46 ∷ ((digit ∷ digits) ++ rest)) (nanoseconds (digit ∷ digits)) rest =
    record { fraction = Some (digit ∷ digits); is = all; written = refl; value_is = refl; point = refl } in
    let P : Option ℕ × List ℕ → Type 0 = λ found. FractionTaken (46 ∷ ((digit ∷ digits) ++ rest)) found.0 found.1 in
    subst P (some_is _ _ e) taken

no_fraction : (text : List ℕ) (found : Option ℕ × List ℕ) → begins_with 46 text ≡ false → ◌≡◌ {A = Option (Option ℕ × List ℕ)} (Some (Some 0, text)) (Some found) → FractionTaken text found.0 found.1
no_fraction text found point e =
    let taken : FractionTaken text (Some 0) text = record { fraction = None; is = tt; written = refl; value_is = refl; point = rw point refl } in
    let P : Option ℕ × List ℕ → Type 0 = λ found. FractionTaken text found.0 found.1 in
    subst P (some_is _ _ e) taken

pub fraction_at-takes : (text : List ℕ) (found : Option ℕ × List ℕ) → fraction_at text ≡ Some found → FractionTaken text found.0 found.1
unfolding fraction_at
fraction_at-takes [] found e = no_fraction [] found refl e
fraction_at-takes (c ∷ rest) found e =
    elim (chosen (nat_eq c 46) (nanoseconds_of (digits_at rest)) (Some (Some 0, c ∷ rest)) (Some found) e) [
      | inl (same, read) ↦
          let taken = nanoseconds_of-takes (digits_at rest) found (digits_at-digits rest) read in
          let whole : c ∷ rest ≡ 46 ∷ ((digits_at rest).0 ++ (digits_at rest).1) = ap (λ x. x ∷ rest) (same_number c 46 same) ∙ ap (λ xs. 46 ∷ xs) (digits_at-whole rest) in
          let P : List ℕ → Type 0 = λ text. FractionTaken text found.0 found.1 in
          subst P (sym whole) taken
      | inr (other, read) ↦ no_fraction (c ∷ rest) found other read
    ]

pub record ZoneTaken (text : List ℕ) (value : Option ℤ) : Type 0 where
  pub zone : Zone
  pub is : IsZone zone
  pub written : text ≡ zone_text zone
  pub value_is : value ≡ zone_value zone

pub no_more : (rest : List ℕ) → nat_eq (length rest) 0 ≡ true → rest ≡ []
no_more [] e = refl
no_more (c ∷ rest) e = absurd (omega (arith, same_number (length (c ∷ rest)) 0 e))

pub record ZoneTimeTaken (text : List ℕ) (total : ℕ) : Type 0 where
  pub hours : ℕ
  pub minutes : ℕ
  pub is : IsZoneTime hours minutes
  pub written : text ≡ pair hours (58 ∷ pair minutes [])
  pub total_is : hours * 60 + minutes ≡ total

zone_minutes-takes : (text : List ℕ) (total : ℕ) → zone_minutes text ≡ Some total → ZoneTimeTaken text total
unfolding zone_minutes
zone_minutes-takes text total e =
    let a = bind_some (two_digits text) (λ hours. after 58 hours.1 >>= λ past_hours. below_sixty past_hours >>= λ minutes. if nat_eq (length minutes.1) 0 && nat_le (hours.0 * 60 + minutes.0) 840 then Some (hours.0 * 60 + minutes.0) else None) total e in
    let b = bind_some (after 58 a.0.1) (λ past_hours. below_sixty past_hours >>= λ minutes. if nat_eq (length minutes.1) 0 && nat_le (a.0.0 * 60 + minutes.0) 840 then Some (a.0.0 * 60 + minutes.0) else None) total a.2 in
    let m = bind_some (below_sixty b.0) (λ minutes. if nat_eq (length minutes.1) 0 && nat_le (a.0.0 * 60 + minutes.0) 840 then Some (a.0.0 * 60 + minutes.0) else None) total b.2 in
    let g = guard_some (nat_eq (length m.0.1) 0 && nat_le (a.0.0 * 60 + m.0.0) 840) (a.0.0 * 60 + m.0.0) total m.2 in
    let tests = both_true (nat_eq (length m.0.1) 0) (nat_le (a.0.0 * 60 + m.0.0) 840) g.0 in
    let hours = two_digits-takes text a.0 a.1 in
    let minutes = below_sixty-takes b.0 m.0 m.1 in
    let total_in : a.0.0 * 60 + m.0.0 ≤ 840 = grind (arith, nat_tests, tests.1) in
    let rest : b.0 ≡ pair m.0.0 [] = minutes.written ∙ ap (pair m.0.0) (no_more m.0.1 tests.0) in
    record {
      hours = a.0.0;
      minutes = m.0.0;
      is = record { minutes_in = omega (arith, minutes.at_most); total_in = total_in };
      written = hours.written ∙ ap (pair a.0.0) (after-takes 58 a.0.1 b.0 b.1 ∙ ap (λ xs. 58 ∷ xs) rest);
      total_is = g.1;
    }

map_some : {A B : Type 0} (f : A → B) (r : Option A) (y : B) → option_map f r ≡ Some y → (x : A) × (r ≡ Some x) × (f x ≡ y)
map_some f (Some x) y e = (x, refl, some_is _ _ e)
map_some f None y e = absurd (cc)

zone_after : (c : ℕ) (rest : List ℕ) (value : Option ℤ) → zone_of (c ∷ rest) ≡ Some value → ZoneTaken (c ∷ rest) value
unfolding zone_of
zone_after c rest value e =
    elim (chosen (nat_eq c 90) (if nat_eq (length rest) 0 then Some (Some (pos 0)) else None) (if nat_eq c 43 then option_map (λ minutes. Some (pos minutes)) (zone_minutes rest) else (if nat_eq c 45 then option_map (λ minutes. Some (neg_ℤ (pos minutes))) (zone_minutes rest) else None)) (Some value) e) [
      | inl (same, read) ↦
          let g = guard_some (nat_eq (length rest) 0) (Some (pos 0)) value read in
          record { zone = Utc; is = tt; written = ap (λ x. x ∷ rest) (same_number c 90 same) ∙ ap (λ xs. 90 ∷ xs) (no_more rest g.0); value_is = sym g.1 }
      | inr (other, read) ↦
          elim (chosen (nat_eq c 43) (option_map (λ minutes. Some (pos minutes)) (zone_minutes rest)) (if nat_eq c 45 then option_map (λ minutes. Some (neg_ℤ (pos minutes))) (zone_minutes rest) else None) (Some value) read) [
            | inl (same, read) ↦
                let s = map_some (λ minutes. Some (pos minutes)) (zone_minutes rest) value read in
                let taken = zone_minutes-takes rest s.0 s.1 in
                record { zone = Ahead taken.hours taken.minutes; is = taken.is; written = ap (λ x. x ∷ rest) (same_number c 43 same) ∙ ap (λ xs. 43 ∷ xs) taken.written; value_is = sym s.2 ∙ ap (λ n. Some (pos n)) (sym taken.total_is) }
            | inr (other, read) ↦
                elim (chosen (nat_eq c 45) (option_map (λ minutes. Some (neg_ℤ (pos minutes))) (zone_minutes rest)) None (Some value) read) [
                  | inl (same, read) ↦
                      let s = map_some (λ minutes. Some (neg_ℤ (pos minutes))) (zone_minutes rest) value read in
                      let taken = zone_minutes-takes rest s.0 s.1 in
                      record { zone = Behind taken.hours taken.minutes; is = taken.is; written = ap (λ x. x ∷ rest) (same_number c 45 same) ∙ ap (λ xs. 45 ∷ xs) taken.written; value_is = sym s.2 ∙ ap (λ n. Some (neg_ℤ (pos n))) (sym taken.total_is) }
                  | inr (other, read) ↦ absurd (cc)
                ]
          ]
    ]

pub zone_of-takes : (text : List ℕ) (value : Option ℤ) → zone_of text ≡ Some value → ZoneTaken text value
unfolding zone_of
zone_of-takes [] value e = record { zone = NoZone; is = tt; written = refl; value_is = sym (some_is _ _ e) }
zone_of-takes (c ∷ rest) value e = zone_after c rest value e
