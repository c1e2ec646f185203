-- What digits write: the first digits and the rest.
use Rattle.std.proofs.Common.{◌≡◌, ℕ, suc, ◌+◌, ◌-◌, ◌*◌, ◌^◌, ◌<◌, ◌≤◌, ◌%◌, pos, ◌++◌, inl, inr, true, List, [], ◌∷◌, length, get_or, take, drop, min, refl, sym, ap, ◌∙◌, arith, length-take, length-drop}
use Rattle.std.proofs.Math.Nat.{pow-suc, pow-le-pow_right}
use Rattle.std.proofs.lemmas.List.{get_or-take, take-append-drop, take_all, drop_all}
use Rattle.std.proofs.lemmas.List.Sums.{prefix_len_passes}
use Rattle.std.proofs.lemmas.List.Folds.{length-prefix_len}
use Rattle.std.proofs.lemmas.Bool.{cases_lt}
use Rattle.std.proofs.lemmas.Bool.Decides.{nat_tests}
use Rattle.std.specs.List.{prefix_len}
use Rattle.std.proofs.lemmas.List.Elements.{All-take}
use Rattle.jiff_core.specs.Calendar.{is_leap_year}
use Rattle.std.specs.Char.{is_ascii_digit, IsAsciiDigit, digit_value}
use Rattle.std.specs.Str.Parse.{AllDigits, digits_value_after}
use Rattle.std.proofs.lemmas.Int.Digits.{digits_value-lt, digits_value_more}
use Rattle.time_value.specs.Digits.{AreDigits, number}

is_digit : (c : ℕ) → is_ascii_digit c ≡ true → IsAsciiDigit c
is_digit c passes = grind (arith, nat_tests)

pub number-nil : number [] ≡ 0
number-nil = refl

-- what a character is worth as a digit
pub worth_is : (d : ℕ) → 48 ≤ d → d ≤ 57 → digit_value d ≡ d - 48
worth_is d low high = grind (arith, nat_tests)

pub pair_value : (a b : ℕ) → 48 ≤ a → a ≤ 57 → 48 ≤ b → b ≤ 57 → number (a ∷ b ∷ []) ≡ (a - 48) * 10 + (b - 48)
pair_value a b a_low a_high b_low b_high = omega (arith, worth_is a a_low a_high, worth_is b b_low b_high)

-- what stands before the first other character is digits
pub AreDigits-prefix : (text : List ℕ) → AreDigits (take (prefix_len is_ascii_digit text) text)
AreDigits-prefix text k d within =
    let below : k < prefix_len is_ascii_digit text = omega (arith, length-prefix_len is_ascii_digit text) in
    rw (get_or-take (prefix_len is_ascii_digit text) text k d below) (is_digit _ (prefix_len_passes is_ascii_digit text k d below))

AreDigits-tail : (digit : ℕ) (digits : List ℕ) → AreDigits (digit ∷ digits) → AreDigits digits
AreDigits-tail digit digits all k d within = all (suc k) d (omega arith)

-- what a digit is worth
pub digit_worth : (digits : List ℕ) (i : ℕ) → AreDigits digits → i < length digits → (48 ≤ get_or digits i 0) × (get_or digits i 0 - 48 ≤ 9)
digit_worth digits i all within = let digit = all i 0 within in (digit.0, omega arith)

-- digits behind a number move it up
value_after : (n : ℕ) (ds : List ℕ) → digits_value_after 10 n ds ≡ n * 10 ^ length ds + number ds
value_after n [] = omega arith
value_after n (d ∷ ds) =
    let more = value_after (n * 10 + digit_value d) ds in
    let own = value_after (0 * 10 + digit_value d) ds in
    rw (more, own, pow-suc 10 (length ds)) (omega arith)

value_after-append : (n : ℕ) (xs ys : List ℕ) → digits_value_after 10 n (xs ++ ys) ≡ digits_value_after 10 (digits_value_after 10 n xs) ys
value_after-append n [] ys = refl
value_after-append n (x ∷ xs) ys = value_after-append (n * 10 + digit_value x) xs ys

-- digits behind others move those up
pub number-append : (xs ys : List ℕ) → number (xs ++ ys) ≡ number xs * 10 ^ length ys + number ys
number-append xs ys = value_after-append 0 xs ys ∙ value_after (number xs) ys

-- one digit more
pub number-more : (digits : List ℕ) (i : ℕ) → AreDigits digits → i < length digits → number (take (i + 1) digits) ≡ number (take i digits) * 10 + (get_or digits i 0 - 48)
number-more digits i all within =
    let digit = all i 0 within in
    digits_value_more 10 digits i within ∙ ap (λ w. number (take i digits) * 10 + w) (worth_is (get_or digits i 0) digit.0 digit.1)

all_digits : (digits : List ℕ) → AreDigits digits → AllDigits 10 digits
all_digits [] all = tt
all_digits (d ∷ ds) all =
    let digit = all 0 0 (omega arith) in
    (omega (arith, worth_is d digit.0 digit.1), all_digits ds (AreDigits-tail d ds all))

-- n digits write a number below 10 ^ n
pub number-bound : (digits : List ℕ) → AreDigits digits → number digits < 10 ^ length digits
number-bound digits all = digits_value-lt 10 digits (all_digits digits all)

AreDigits-take : (i : ℕ) (digits : List ℕ) → AreDigits digits → AreDigits (take i digits)
AreDigits-take i digits all = All-take IsAsciiDigit i digits all

-- up to three digits of at most four
pub number-take-bound : (digits : List ℕ) (i : ℕ) → AreDigits digits → length digits ≤ 4 → i < length digits → number (take i digits) < 1000
number-take-bound digits i all short within =
    let below = number-bound (take i digits) (AreDigits-take i digits all) in
    let count : length (take i digits) ≤ 3 = omega (arith, length-take i digits) in
    let power = pow-le-pow_right {n = 10} (omega arith) count in
    omega (arith, power)

pub number-bound-four : (digits : List ℕ) → AreDigits digits → length digits ≤ 4 → number digits < 10_000
number-bound-four digits all short =
    let power = pow-le-pow_right {n = 10} (omega arith) short in
    omega (arith, power, number-bound digits all)

-- the last four digits and what stands before them
pub number-last_four : (digits : List ℕ) → 4 ≤ length digits
    → number digits ≡ number (take (length digits - 4) digits) * 10_000 + number (drop (length digits - 4) digits)
number-last_four digits long =
    let front = length digits - 4 in
    let whole = ap number (sym (take-append-drop front digits)) ∙ number-append (take front digits) (drop front digits) in
    let count : length (drop front digits) ≡ 4 = omega (arith, length-drop front digits) in
    rw count at whole

-- 400 divides 10,000
pub is_leap_year-last_four : (n front last : ℕ) → n ≡ front * 10_000 + last → is_leap_year (pos last) ≡ is_leap_year (pos n)
is_leap_year-last_four n front last e =
    let four : n % 4 ≡ last % 4 = omega arith in
    let hundred : n % 100 ≡ last % 100 = omega arith in
    let most : n % 400 ≡ last % 400 = omega arith in
    rw (four, hundred, most) refl

pub tenth : (places more : ℕ) → places ≡ suc more → 10 ^ places ≡ 10 * 10 ^ more
tenth places more e = rw e (omega (arith, pow-suc 10 more))

-- where a list is cut at a place or at its end, the parts are those at the place
pub take-cut : (xs : List ℕ) (n place : ℕ) → place ≡ min (length xs) n → take place xs ≡ take n xs
take-cut xs n place e =
    elim (cases_lt n (length xs)) [
      | inl lt ↦ ap (λ i. take i xs) (omega arith)
      | inr ge ↦ take_all place xs (omega arith) ∙ sym (take_all n xs (omega arith))
    ]

pub drop-cut : (xs : List ℕ) (n place : ℕ) → place ≡ min (length xs) n → drop place xs ≡ drop n xs
drop-cut xs n place e =
    elim (cases_lt n (length xs)) [
      | inl lt ↦ ap (λ i. drop i xs) (omega arith)
      | inr ge ↦ drop_all place xs (omega arith) ∙ sym (drop_all n xs (omega arith))
    ]
