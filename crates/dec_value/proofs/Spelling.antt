-- The functions that take a text apart find the numeral that it is, if it is one, and no other.
use Rattle.std.proofs.Common.{◌≡◌, ℕ, suc, ◌+◌, Bool, true, false, eqb, List, [], ◌∷◌, ◌++◌, length, Option, Some, None, Ok, Err, IsTrue, refl, sym, ap, subst, ◌∙◌, arith}
use Rattle.std.proofs.lemmas.Bool.Decides.{nat_tests}
use Rattle.std.specs.Bool.{if◌then◌else◌}
use Rattle.std.specs.Char.{is_ascii_digit}
use Rattle.std.specs.List.{before_first, after_first, list_all, position_or_len}
use Rattle.dec_value.specs.Decimal.{IsLowestForm, is_too_wide}
use Rattle.dec_value.specs.Grammar.{Sign, absent, plus, minus, Numeral, sign_text, fraction_text, fraction_digits, is_minus, numeral_number, IsWritten, Reads}
use Rattle.dec_value.specs.Literal.{is_negative, unsigned, is_point, whole_part, fraction_part, are_digits, is_literal, written, value_of, decimal_of, narrow, number, lowest}
use Rattle.dec_value.specs.declared.decimal.DecFault.TheVariants.{NotDecimal, TooWide}
use Rattle.dec_value.proofs.Numerals.{and_left, and_right, digit_range}
use Rattle.dec_value.proofs.Reading.{lowest_of, lowest-gave_up, lowest-reduced, lowest_is_one}

-- ---- the first point

before_point : (b : ℕ) (bs : List ℕ) → is_point b ≡ true → before_first is_point (b ∷ bs) ≡ []
before_point b bs e = rw e refl

after_point : (b : ℕ) (bs : List ℕ) → is_point b ≡ true → after_first is_point (b ∷ bs) ≡ bs
after_point b bs e = rw e refl

before_other : (b : ℕ) (bs : List ℕ) → is_point b ≡ false → before_first is_point (b ∷ bs) ≡ b ∷ before_first is_point bs
before_other b bs e = let s : 1 + position_or_len is_point bs ≡ suc (position_or_len is_point bs) = omega arith in rw (e, s) refl

after_other : (b : ℕ) (bs : List ℕ) → is_point b ≡ false → after_first is_point (b ∷ bs) ≡ after_first is_point bs
after_other b bs e = let s : 1 + position_or_len is_point bs + 1 ≡ suc (position_or_len is_point bs + 1) = omega arith in rw (e, s) refl

split_step : (b : ℕ) (bs : List ℕ) → (f : Option (List ℕ)) × (bs ≡ before_first is_point bs ++ fraction_text f) × (fraction_digits f ≡ after_first is_point bs)
    → (t : Bool) → is_point b ≡ t
    → (f : Option (List ℕ)) × (b ∷ bs ≡ before_first is_point (b ∷ bs) ++ fraction_text f) × (fraction_digits f ≡ after_first is_point (b ∷ bs))
split_step b bs later true e =
    let c : b ≡ 46 = grind (arith, nat_tests) in
    (Some bs, rw (before_point b bs e, c) refl, sym (after_point b bs e))
split_step b bs later false e =
    (later.0, rw (before_other b bs e) (ap (λ r. b ∷ r) later.1), later.2 ∙ sym (after_other b bs e))

-- a text is what stands before its first point, the point, and what stands behind it
split : (bs : List ℕ) → (f : Option (List ℕ)) × (bs ≡ before_first is_point bs ++ fraction_text f) × (fraction_digits f ≡ after_first is_point bs)
split [] = (None, refl, refl)
split (b ∷ bs) = split_step b bs (split bs) (is_point b) refl

-- digits have no point, so the digits before a point are all that stands before it
digit_no_point : (d : ℕ) → IsTrue (is_ascii_digit d) → is_point d ≡ false
digit_no_point d h = let r = digit_range d h in grind (arith, nat_tests)

before_digits : (whole : List ℕ) (f : Option (List ℕ)) → IsTrue (list_all is_ascii_digit whole) → before_first is_point (whole ++ fraction_text f) ≡ whole
before_digits [] None h = refl
before_digits [] (Some ds) h = refl
before_digits (d ∷ ds) f h =
    before_other d (ds ++ fraction_text f) (digit_no_point d (and_left _ _ h)) ∙ ap (λ r. d ∷ r) (before_digits ds f (and_right _ _ h))

after_digits : (whole : List ℕ) (f : Option (List ℕ)) → IsTrue (list_all is_ascii_digit whole) → after_first is_point (whole ++ fraction_text f) ≡ fraction_digits f
after_digits [] None h = refl
after_digits [] (Some ds) h = refl
after_digits (d ∷ ds) f h =
    after_other d (ds ++ fraction_text f) (digit_no_point d (and_left _ _ h)) ∙ after_digits ds f (and_right _ _ h)

-- ---- the sign

sign_step : (b : ℕ) (bs : List ℕ) (p m : Bool) → eqb b 43 ≡ p → eqb b 45 ≡ m
    → (s : Sign) × (b ∷ bs ≡ sign_text s ++ unsigned (b ∷ bs)) × (is_minus s ≡ is_negative (b ∷ bs))
sign_step b bs true m e f =
    let c : b ≡ 43 = grind (arith, nat_tests) in
    let n : eqb b 45 ≡ false = grind (arith, nat_tests) in (plus, rw (e, c) refl, sym n)
sign_step b bs false true e f =
    let c : b ≡ 45 = grind (arith, nat_tests) in (minus, rw (e, f, c) refl, sym f)
sign_step b bs false false e f = (absent, rw (e, f) refl, sym f)

sign_of : (text : List ℕ) → (s : Sign) × (text ≡ sign_text s ++ unsigned text) × (is_minus s ≡ is_negative text)
sign_of [] = (absent, refl, refl)
sign_of (b ∷ bs) = sign_step b bs (eqb b 43) (eqb b 45) refl refl

unsigned_digits : (s : Sign) (whole : List ℕ) (f : Option (List ℕ)) → IsTrue (list_all is_ascii_digit whole)
    → unsigned (sign_text s ++ (whole ++ fraction_text f)) ≡ whole ++ fraction_text f
unsigned_digits plus whole f h = refl
unsigned_digits minus whole f h = refl
unsigned_digits absent [] None h = refl
unsigned_digits absent [] (Some ds) h = refl
unsigned_digits absent (d ∷ ds) f h =
    let r = digit_range d (and_left _ _ h) in
    let p : eqb d 43 ≡ false = grind (arith, nat_tests) in
    let m : eqb d 45 ≡ false = grind (arith, nat_tests) in rw (p, m) refl

negative_digits : (s : Sign) (whole : List ℕ) (f : Option (List ℕ)) → IsTrue (list_all is_ascii_digit whole)
    → is_negative (sign_text s ++ (whole ++ fraction_text f)) ≡ is_minus s
negative_digits plus whole f h = refl
negative_digits minus whole f h = refl
negative_digits absent [] None h = refl
negative_digits absent [] (Some ds) h = refl
negative_digits absent (d ∷ ds) f h = let r = digit_range d (and_left _ _ h) in grind (arith, nat_tests)

-- ---- the whole text

-- a literal is a numeral
spelled : (text : List ℕ) → is_literal text ≡ true → (n : Numeral) × IsWritten text n × (written text ≡ numeral_number n)
spelled text e =
    let sign = sign_of text in
    let parts = split (unsigned text) in
    let n : Numeral = record { sign = sign.0; whole = whole_part text; fraction = parts.0 } in (
      n,
      record { digits = rw (parts.2) e; written = sign.1 ∙ ap (λ r. sign_text sign.0 ++ r) parts.1 },
      rw (parts.2, sign.2) refl,
    )

-- a numeral is a literal, and its number is what is written
every : (text : List ℕ) (n : Numeral) → IsWritten text n → is_literal text ≡ true
every text n w =
    let whole_digits : IsTrue (list_all is_ascii_digit n.whole) = and_left _ _ (and_left _ _ w.digits) in
    let bare : unsigned text ≡ n.whole ++ fraction_text n.fraction = ap unsigned w.written ∙ unsigned_digits n.sign n.whole n.fraction whole_digits in
    let front : whole_part text ≡ n.whole = ap (before_first is_point) bare ∙ before_digits n.whole n.fraction whole_digits in
    let back : fraction_part text ≡ fraction_digits n.fraction = ap (after_first is_point) bare ∙ after_digits n.whole n.fraction whole_digits in
    ap (λ a. are_digits a (fraction_part text)) front ∙ ap (are_digits n.whole) back ∙ w.digits

-- ---- what a text reads to

value_lowest : (text : List ℕ) → IsLowestForm (value_of text) (written text)
value_lowest text =
    let n = number (whole_part text ++ fraction_part text) in
    let s = length (fraction_part text) in
    lowest_of (is_negative text) (lowest n s).over (lowest n s).scale n s (lowest-gave_up n s) (lowest-reduced n s)

reads_narrow : (text : List ℕ) (n : Numeral) → IsWritten text n → written text ≡ numeral_number n
    → (wide : Bool) → is_too_wide (value_of text) ≡ wide → Reads text (narrow (value_of text))
reads_narrow text n w number_is false e =
    let low : IsLowestForm (value_of text) (numeral_number n) = rw number_is at (value_lowest text) in
    let P : Bool → Type 0 = λ t. Reads text (if t then Err TooWide else Ok (value_of text)) in subst P (sym e) (n, w, low, e)
reads_narrow text n w number_is true e =
    let low : IsLowestForm (value_of text) (numeral_number n) = rw number_is at (value_lowest text) in
    let P : Bool → Type 0 = λ t. Reads text (if t then Err TooWide else Ok (value_of text)) in subst P (sym e)
    (n, w, λ d is. ap is_too_wide (lowest_is_one d (value_of text) (numeral_number n) is low) ∙ e)

reads_literal : (text : List ℕ) (literal : Bool) → is_literal text ≡ literal → Reads text (if literal then narrow (value_of text) else Err NotDecimal)
reads_literal text true e = let found = spelled text e in reads_narrow text found.0 found.1 found.2 (is_too_wide (value_of text)) refl
reads_literal text false e = λ n w. let t : is_literal text ≡ true = every text n w in cc

-- the functions answer as the grammar says
pub reads_text : (text : List ℕ) → Reads text (decimal_of text)
reads_text text = reads_literal text (is_literal text) refl
