-- The literals of integers among those of decimals.
use Rattle.std.proofs.Common.{◌≡◌, ℕ, ◌==◌, Bool, true, false, cond, ◌&&◌, ◌||◌, List, [], ◌∷◌, length, Err, refl, ap, ◌∙◌, arith}
use Rattle.std.specs.List.{list_any, list_all, before_first, after_first, position_or_len}
use Rattle.std.specs.Char.{is_ascii_digit}
use Rattle.std.proofs.lemmas.Bool.Decides.{nat_tests}
use Rattle.std.proofs.lemmas.List.{append-nil, take_all}
use Rattle.std.proofs.Math.ListN.{drop_of_length-le}
use Rattle.dec_value.specs.Decimal.{Decimal}
use Rattle.dec_value.specs.Literal.{is_point, unsigned, narrow, decimal_of}
use Rattle.dec_value.specs.declared.decimal.DecFault.TheVariants.{NotDecimal}
use Rattle.simple_values.specs.declared.fault.ValueFault.TheVariants.{NotLexical}
use Rattle.simple_values.specs.Literals.{is_integer_literal, integer_of, integer_value, decimal_value, limited}

-- ---- tests of lists

or_first : (a b : Bool) → (a || b) ≡ false → a ≡ false
or_first true b e = e
or_first false b e = refl

or_second : (a b : Bool) → (a || b) ≡ false → b ≡ false
or_second true b e = cc
or_second false b e = e

and_true : (b : Bool) → (b && true) ≡ b
and_true true = refl
and_true false = refl

and_false : (b : Bool) → (b && false) ≡ false
and_false true = refl
and_false false = refl

-- where no element passes, the first that does is past the end
first_past_end : (xs : List ℕ) → list_any is_point xs ≡ false → position_or_len is_point xs ≡ length xs
first_past_end [] e = refl
first_past_end (x ∷ xs) e =
    let h : is_point x ≡ false = or_first (is_point x) (list_any is_point xs) e in
    let t : position_or_len is_point xs ≡ length xs = first_past_end xs (or_second (is_point x) (list_any is_point xs) e) in
    rw (h, t) (omega arith)

whole_before : (xs : List ℕ) → list_any is_point xs ≡ false → before_first is_point xs ≡ xs
whole_before xs e = rw (first_past_end xs e) (take_all (length xs) xs (omega arith))

nothing_after : (xs : List ℕ) → list_any is_point xs ≡ false → after_first is_point xs ≡ []
nothing_after xs e = rw (first_past_end xs e) (drop_of_length-le xs (omega arith))

behind_sign : (text : List ℕ) → list_any is_point text ≡ false → list_any is_point (unsigned text) ≡ false
behind_sign [] e = e
behind_sign (b ∷ bs) e = by ((b == 43) || (b == 45))
  where
    by : (t : Bool) → list_any is_point (cond t bs (b ∷ bs)) ≡ false
    by true = or_second (is_point b) (list_any is_point bs) e
    by false = e

-- ---- a text without a point

-- the integer as a decimal
abbrev whole : List ℕ → Decimal
whole text = record { unscaled = integer_of text; scale = 0 }

unpointed : (text : List ℕ) → list_any is_point text ≡ false
    → decimal_of text ≡ cond (is_integer_literal text) (narrow (whole text)) (Err NotDecimal)
unpointed text e =
    let u : list_any is_point (unsigned text) ≡ false = behind_sign text e in
    rw (whole_before (unsigned text) u, nothing_after (unsigned text) u, append-nil (unsigned text), and_true (list_all is_ascii_digit (unsigned text)), and_true (length (unsigned text) == 0)) refl

by_literal : (t : Bool) (d : Decimal) → limited (cond t (narrow d) (Err NotDecimal)) ≡ cond t (limited (narrow d)) (Err NotLexical)
by_literal true d = refl
by_literal false d = refl

-- a text without a point reads as the decimal that it is
pub integer_unpointed : (text : List ℕ) → list_any is_point text ≡ false → decimal_value text ≡ integer_value text
integer_unpointed text e = ap limited (unpointed text e) ∙ by_literal (is_integer_literal text) (whole text)

-- ---- a point

pointed_step : (x : ℕ) (xs : List ℕ) (t : Bool) → is_point x ≡ t → (t || list_any is_point xs) ≡ true → (list_any is_point xs ≡ true → list_all is_ascii_digit xs ≡ false)
    → (is_ascii_digit x && list_all is_ascii_digit xs) ≡ false
pointed_step x xs true p e f = let h : is_ascii_digit x ≡ false = grind (arith, nat_tests) in rw h refl
pointed_step x xs false p e f = rw (f e) (and_false (is_ascii_digit x))

pointed_digits : (xs : List ℕ) → list_any is_point xs ≡ true → list_all is_ascii_digit xs ≡ false
pointed_digits [] e = cc
pointed_digits (x ∷ xs) e = pointed_step x xs (is_point x) refl e (pointed_digits xs)

point_behind : (b : ℕ) (bs : List ℕ) (t : Bool) → ((b == 43) || (b == 45)) ≡ t → list_any is_point (b ∷ bs) ≡ true → list_any is_point (cond t bs (b ∷ bs)) ≡ true
point_behind b bs true p e = let h : is_point b ≡ false = grind (arith, nat_tests) in rw h at e
point_behind b bs false p e = e

point_behind_sign : (text : List ℕ) → list_any is_point text ≡ true → list_any is_point (unsigned text) ≡ true
point_behind_sign [] e = e
point_behind_sign (b ∷ bs) e = point_behind b bs ((b == 43) || (b == 45)) refl e

pub integer_pointed : (text : List ℕ) → list_any is_point text ≡ true → Err NotLexical ≡ integer_value text
integer_pointed text e =
    let h : list_all is_ascii_digit (unsigned text) ≡ false = pointed_digits (unsigned text) (point_behind_sign text e) in
    rw h refl
