-- What decimal digits write, and the lowest form of what they write.
use Rattle.std.proofs.Common.{◌≡◌, ℕ, suc, ◌+◌, ◌-◌, ◌*◌, ◌/◌, ◌%◌, ◌^◌, ◌<◌, ◌≤◌, ◌≢◌, List, [], ◌∷◌, ◌++◌, length, refl, sym, ap, ◌∙◌, arith, append_assoc, length-append, add-one, eqb, Bool, ◌&&◌, true, false, IsTrue, drop, get_or, drop-cons, length-drop, lit<, lit≤, ◌↔◌}
use Rattle.std.proofs.lemmas.Nat.{mul-le}
use Rattle.std.proofs.Math.Nat.{pow-suc, pow-le-pow_right, one-le-pow}
use Rattle.std.proofs.lemmas.Int.Digits.{length-digits_of-le, length-digits_of_step, number_lt, number_digits_of, digits_value_push, all_below_base_digits_of}
use Rattle.std.specs.Char.{is_ascii_digit, digit_value}
use Rattle.std.specs.Str.Parse.{digits_value_after}
use Rattle.std.specs.Int.Digits.{digits_of, number_from_digits}
use Rattle.std.specs.Int.RustNames.{unsigned_abs}
use Rattle.std.specs.List.{list_all}
use Rattle.dec_value.specs.Decimal.{Decimal, digit_count, total_digits_of, IsWithinTotalDigits}
use Rattle.std.proofs.lemmas.Bool.Decides.{nat_tests}
use Rattle.dec_value.specs.Literal.{number, lowest}

-- digits behind a number move it up
value_after : (n : ℕ) (ds : List ℕ) → digits_value_after 10 n ds ≡ n * 10 ^ length ds + number ds
value_after n [] = omega arith
value_after n (d ∷ ds) =
    let more = value_after (n * 10 + digit_value d) ds in
    let own = value_after (0 * 10 + digit_value d) ds in
    rw (more, own, pow-suc 10 (length ds)) (omega arith)

value_after-append : (n : ℕ) (xs ys : List ℕ) → digits_value_after 10 n (xs ++ ys) ≡ digits_value_after 10 (digits_value_after 10 n xs) ys
value_after-append n [] ys = refl
value_after-append n (x ∷ xs) ys = value_after-append (n * 10 + digit_value x) xs ys

pub number-append : (xs ys : List ℕ) → number (xs ++ ys) ≡ number xs * 10 ^ length ys + number ys
number-append xs ys = value_after-append 0 xs ys ∙ value_after (number xs) ys

-- what a digit is worth
digit_worth : (d : ℕ) → 48 ≤ d → d ≤ 57 → digit_value d ≡ d - 48
digit_worth d low high = grind (arith, nat_tests)

pub lowest-ten : (n m s : ℕ) → m ≡ 10 * n → lowest m (suc s) ≡ lowest n s
lowest-ten n m s is = let e : eqb (m % 10) 0 ≡ true = grind (arith, nat_tests) in let q : m / 10 ≡ n = omega (arith, is) in rw (e, q) refl

pub lowest-other : (n s : ℕ) → n % 10 ≢ 0 → lowest n (suc s) ≡ record { over = n; scale = suc s }
lowest-other n s h = let e : eqb (n % 10) 0 ≡ false = grind (arith, nat_tests) in rw e refl

-- ---- digits read from the left

pub and_right : (a b : Bool) → IsTrue (a && b) → IsTrue b
and_right true b h = h
and_right false b h = absurd (let e : false ≡ true = h in cc)

pub number-step : (v : ℕ) (ds : List ℕ) (i : ℕ) → i < length ds → 48 ≤ get_or ds i 0 → get_or ds i 0 ≤ 57
    → (v * 10 + (get_or ds i 0 - 48)) * 10 ^ length (drop (i + 1) ds) + number (drop (i + 1) ds)
    ≡ v * 10 ^ length (drop i ds) + number (drop i ds)
number-step v ds i h low high =
    let d = get_or ds i 0 in
    let rest = drop (i + 1) ds in
    let front : drop i ds ≡ d ∷ rest = rw add-one (drop-cons ds i 0 h) in
    let worth : v * 10 + (d - 48) ≡ v * 10 + digit_value d = ap (λ n. v * 10 + n) (sym (digit_worth d low high)) in
    ap (λ n. n * 10 ^ length rest + number rest) worth ∙ sym (value_after (v * 10 + digit_value d) rest) ∙ ap (digits_value_after 10 v) (sym front) ∙ value_after v (drop i ds)

pub and_left : (a b : Bool) → IsTrue (a && b) → IsTrue a
and_left true b h = refl
and_left false b h = absurd (let e : false ≡ true = h in cc)

pub digit_range : (d : ℕ) → IsTrue (is_ascii_digit d) → (48 ≤ d) × (d ≤ 57)
digit_range d h = (grind (arith, nat_tests), grind (arith, nat_tests))

pub digit-at : (ds : List ℕ) (i : ℕ) → i < length ds → IsTrue (list_all is_ascii_digit (drop i ds)) → (48 ≤ get_or ds i 0) × (get_or ds i 0 ≤ 57)
digit-at ds i h all = digit_range (get_or ds i 0) (and_left _ _ (rw (drop-cons ds i 0) at all))

pub digits-rest : (ds : List ℕ) (i : ℕ) → i < length ds → IsTrue (list_all is_ascii_digit (drop i ds))
    → IsTrue (list_all is_ascii_digit (drop (i + 1) ds))
digits-rest ds i h all = rw add-one (and_right _ _ (rw (drop-cons ds i 0) at all))

pub digits-front : (front : List ℕ) (last : ℕ) → IsTrue (list_all is_ascii_digit (front ++ last ∷ []))
    → IsTrue (list_all is_ascii_digit front) × (48 ≤ last) × (last ≤ 57)
digits-front [] last h = (refl, (digit_range last (and_left _ _ h)).0, (digit_range last (and_left _ _ h)).1)
digits-front (d ∷ ds) last h =
    let more : IsTrue (list_all is_ascii_digit ds) × (48 ≤ last) × (last ≤ 57) = digits-front ds last (and_right _ _ h) in
    let first : IsTrue (is_ascii_digit d) = and_left _ _ h in
    (rw first more.0, more.1, more.2)

pub too_many : (v : ℕ) (ds : List ℕ) (i : ℕ) → i < length ds → 10 ^ 37 ≤ v
    → 10 ^ 38 ≤ v * 10 ^ length (drop i ds) + number (drop i ds)
too_many v ds i h big =
    let one : 1 ≤ length (drop i ds) = omega (arith, length-drop i ds) in
    let ten : 10 ^ 1 ≤ 10 ^ length (drop i ds) = pow-le-pow_right (lit< tt) one in
    let most : 10 ^ 37 * 10 ^ 1 ≤ v * 10 ^ length (drop i ds) = mul-le (10 ^ 37) (10 ^ 1) v (10 ^ length (drop i ds)) big ten in
    omega (arith, most)

-- ---- how many digits write a number

pub digit_count-one : (n : ℕ) → n < 10 → digit_count n ≡ 1
digit_count-one n h = omega (arith, length-digits_of-le 10 1 n (lit≤ tt) h)

pub digit_count-ten : (n : ℕ) → 10 ≤ n → digit_count n ≡ digit_count (n / 10) + 1
digit_count-ten n h =
    let low : 1 ≤ n / 10 = omega arith in
    omega (arith, length-digits_of_step 10 n (lit≤ tt) (omega arith), length-digits_of_step 10 (n / 10) (lit≤ tt) low)

pub digit_count-le : (k n : ℕ) → 0 < k → n < 10 ^ k → digit_count n ≤ k
digit_count-le k n h l = omega (arith, length-digits_of-le 10 k n (lit≤ tt) l)

pub digit_count-bound : (n : ℕ) → n < 10 ^ digit_count n
digit_count-bound n =
    let own : number_from_digits 10 (digits_of 10 n) < 10 ^ length (digits_of 10 n) = number_lt 10 (digits_of 10 n) (all_below_base_digits_of 10 n (lit≤ tt)) in
    let up : 10 ^ length (digits_of 10 n) ≤ 10 ^ digit_count n = pow-le-pow_right (lit< tt) (omega arith) in
    omega (arith, own, up, number_digits_of 10 n (lit≤ tt))

pub total-admits : (d : Decimal) (r : ℕ) → r ≡ total_digits_of d → (n : ℕ) → 0 < n → (r ≤ n) ↔ IsWithinTotalDigits n d
total-admits d r e n h = (
  λ most. record {
    magnitude = let up : 10 ^ digit_count (unsigned_abs d.unscaled) ≤ 10 ^ n = pow-le-pow_right (lit< tt) (omega arith) in
        omega (arith, up, digit_count-bound (unsigned_abs d.unscaled));
    scale = omega arith;
  },
  λ w. omega (arith, digit_count-le n (unsigned_abs d.unscaled) h w.magnitude, w.scale),
)

-- ---- zeros at the end of a fraction

pub trimmed : (rest front : List ℕ) (last : ℕ) → rest ≡ front ++ last ∷ [] → last ≡ 48
    → (whole : List ℕ) → lowest (number (whole ++ rest)) (length rest) ≡ lowest (number (whole ++ front)) (length front)
trimmed rest front last e z whole =
    let n : number ((whole ++ front) ++ last ∷ []) ≡ 10 * number (whole ++ front) = omega (arith, digits_value_push 10 (whole ++ front) last, ap digit_value z) in
    rw (e, ← append_assoc whole front (last ∷ []), length-append front (last ∷ []), add-one)
    (lowest-ten (number (whole ++ front)) (number ((whole ++ front) ++ last ∷ [])) (length front) n)

pub untrimmed : (rest front : List ℕ) (last : ℕ) → rest ≡ front ++ last ∷ [] → last ≢ 48 → 48 ≤ last → last ≤ 57
    → (whole : List ℕ) → lowest (number (whole ++ rest)) (length rest) ≡ record { over = number (whole ++ rest); scale = length rest }
untrimmed rest front last e z low high whole =
    let n : number ((whole ++ front) ++ last ∷ []) % 10 ≢ 0 = λ zero. z (omega (arith, digits_value_push 10 (whole ++ front) last, digit_worth last low high)) in
    rw (e, ← append_assoc whole front (last ∷ []), length-append front (last ∷ []), add-one)
    (lowest-other (number ((whole ++ front) ++ last ∷ [])) (length front) n)

pub number-front : (xs ys : List ℕ) → number xs ≤ number (xs ++ ys)
number-front xs ys =
    let p : number xs * 1 ≤ number xs * 10 ^ length ys = mul-le (number xs) 1 (number xs) (10 ^ length ys) (omega arith) (omega (arith, one-le-pow (length ys) 10 (lit< tt))) in
    omega (arith, p, number-append xs ys)
