-- What a literal's parts tell of what the text reads to, and that this is the lowest form.
use Rattle.std.proofs.Common.{◌≡◌, ℕ, zero, suc, ◌+◌, ◌-◌, ◌*◌, ◌/◌, ◌%◌, ◌^◌, ◌<◌, ◌≤◌, ◌≢◌, Bool, true, false, List, ◌++◌, length, ℤ, pos, ◌*ℤ◌, to_z, of_z, ◌↔◌, Result, Ok, Err, refl, sym, ap, ◌∙◌, arith, eqb, ltb, leb, inl, inr, add-zero, Ordering}
use Rattle.std.proofs.lemmas.Bool.{cases_lt}
use Rattle.std.proofs.lemmas.Bool.Decides.{nat_tests}
use Rattle.std.proofs.lemmas.Int.{ints, unsigned_abs-mul, to_z-of_z}
use Rattle.std.proofs.lemmas.Nat.{pow-add}
use Rattle.std.proofs.lemmas.Grind.{pow_more}
use Rattle.std.proofs.Math.Nat.{pow-suc, mul-div_cancel}
use Rattle.std.specs.Int.{w128}
use Rattle.std.specs.Int.RustNames.{unsigned_abs}
use Rattle.std.specs.Bool.{if◌then◌else◌}
use Rattle.std.specs.Ordering.{int_cmp}
use Rattle.std.specs.declared.cmp.Ordering.TheVariants.{Equal}
use Rattle.dec_value.specs.Decimal.{Decimal, IsLowestForm, IsKept, order_of}
use Rattle.dec_value.specs.Literal.{is_literal, is_negative, whole_part, fraction_part, number, signed, lowest, Fraction, value_of, decimal_of, narrow}
use Rattle.dec_value.specs.declared.decimal.DecFault.{DecFault}
use Rattle.dec_value.specs.declared.decimal.DecFault.TheVariants.{NotDecimal, TooWide}
use Rattle.dec_value.proofs.Arithmetic.{ten_positive, int_cmp-scaled, kept_fits}

-- ---- the lowest form of n / 10 ^ s

reduced_step : (n s : ℕ) → (0 < (lowest (n / 10) s).scale → (lowest (n / 10) s).over % 10 ≢ 0) → (t : Bool) → eqb (n % 10) 0 ≡ t
    → 0 < (lowest n (suc s)).scale → (lowest n (suc s)).over % 10 ≢ 0
reduced_step n s later true e = rw e later
reduced_step n s later false e = rw e (λ _. let k : n % 10 ≢ 0 = grind (arith, nat_tests) in k)

pub lowest-reduced : (n s : ℕ) → 0 < (lowest n s).scale → (lowest n s).over % 10 ≢ 0
lowest-reduced n zero h = absurd (omega (arith, h))
lowest-reduced n (suc s) h = reduced_step n s (lowest-reduced (n / 10) s) (eqb (n % 10) 0) refl h

-- n is what is left, by a power of ten that the scale gave up
pub record GaveUp (n s : ℕ) (low : Fraction) : Type 0 where
  pub tens : ℕ
  pub whole : n ≡ low.over * 10 ^ tens
  pub scale : s ≡ low.scale + tens

gave_up_step : (n s : ℕ) → GaveUp (n / 10) s (lowest (n / 10) s) → (t : Bool) → eqb (n % 10) 0 ≡ t → GaveUp n (suc s) (lowest n (suc s))
gave_up_step n s later true e = rw e (record {
  tens = suc later.tens;
  whole = let z : n % 10 ≡ 0 = grind (arith, nat_tests) in rw (pow-suc 10 later.tens) (omega (arith, z, later.whole));
  scale = omega (arith, later.scale);
})
gave_up_step n s later false e = rw e (record { tens = 0; whole = omega arith; scale = omega arith })

pub lowest-gave_up : (n s : ℕ) → GaveUp n s (lowest n s)
lowest-gave_up n zero = record { tens = 0; whole = omega arith; scale = omega arith }
lowest-gave_up n (suc s) = gave_up_step n s (lowest-gave_up (n / 10) s) (eqb (n % 10) 0) refl

cancel : (a b p : ℕ) → 0 < p → a * p ≡ b * p → a ≡ b
cancel a b p h e = sym (mul-div_cancel a h) ∙ ap (λ q. q / p) e ∙ mul-div_cancel b h

-- a form with a smaller scale shows that the number over the greater one ends in 0
tens_below : (a m t k e : ℕ) → e < t → a * 10 ^ (t + k) ≡ (m * 10 ^ k) * 10 ^ e → m % 10 ≡ 0
tens_below a m t k e l same =
    let j : ℕ = t - suc e in
    let split : t + k ≡ (j + 1) + (k + e) = omega (arith, l) in
    let left : a * 10 ^ (t + k) ≡ (a * 10 ^ j * 10) * 10 ^ (k + e) =
    ap (λ q. a * 10 ^ q) split ∙ rw (pow-add 10 (j + 1) (k + e), pow_more 10 j) (omega arith) in
    let right : (m * 10 ^ k) * 10 ^ e ≡ m * 10 ^ (k + e) = rw (pow-add 10 k e) (omega arith) in
    let one : (a * 10 ^ j * 10) * 10 ^ (k + e) ≡ m * 10 ^ (k + e) = sym left ∙ same ∙ right in
    let is : a * 10 ^ j * 10 ≡ m = cancel (a * 10 ^ j * 10) m (10 ^ (k + e)) (ten_positive (k + e)) one in
    omega (arith, is)

pub least_scale : (a m t k e : ℕ) → (0 < t → m % 10 ≢ 0) → a * 10 ^ (t + k) ≡ (m * 10 ^ k) * 10 ^ e → t ≤ e
least_scale a m t k e reduced same = elim (cases_lt e t) [
  | inl l ↦ absurd (reduced (omega (arith, l)) (tens_below a m t k e l same))
  | inr g ↦ g
]

-- ---- signs

pub unsigned_abs-signed : (b : Bool) (n : ℕ) → unsigned_abs (signed b n) ≡ n
unsigned_abs-signed true zero = refl
unsigned_abs-signed true (suc n) = refl
unsigned_abs-signed false n = refl

pub signed-mul : (b : Bool) (n p : ℕ) → signed b n *ℤ pos p ≡ signed b (n * p)
signed-mul false n p = refl
signed-mul true zero p = let e : 0 * p ≡ 0 = omega arith in rw e refl
signed-mul true (suc n) p = refl

-- a number from which all common tens are gone is in lowest form
pub lowest_of : (b : Bool) (m t n s : ℕ) → GaveUp n s (record { over = m; scale = t }) → (0 < t → m % 10 ≢ 0)
    → IsLowestForm (record { unscaled = signed b m; scale = t }) (record { unscaled = signed b n; scale = s })
lowest_of b m t n s gave reduced = record {
  same = signed-mul b m (10 ^ s) ∙ ap (signed b) (rw (gave.whole, gave.scale, pow-add 10 t gave.tens) (omega arith)) ∙ sym (signed-mul b n (10 ^ t));
  least = λ c same.
      let abs : unsigned_abs c.unscaled * 10 ^ s ≡ n * 10 ^ c.scale =
      sym (unsigned_abs-mul c.unscaled (pos (10 ^ s))) ∙ ap unsigned_abs same ∙ unsigned_abs-mul (signed b n) (pos (10 ^ c.scale))
      ∙ ap (λ q. q * 10 ^ c.scale) (unsigned_abs-signed b n) in
      least_scale (unsigned_abs c.unscaled) m t gave.tens c.scale reduced (rw (gave.whole, gave.scale) at abs);
}

-- ---- what a text reads to

abbrev decision : Bool → Decimal → Result Decimal DecFault
decision literal d = if literal then narrow d else Err NotDecimal

module _ (text rest : List ℕ) (negative : Bool) (whole fraction : List ℕ)
    (sign : negative ≡ is_negative text) (is_whole : whole ≡ whole_part text) (is_fraction : fraction ≡ fraction_part text)
    (low : lowest (number (whole ++ fraction)) (length fraction) ≡ record { over = number (whole ++ rest); scale = length rest }) where
  pub value_is : value_of text ≡ record { unscaled = signed negative (number (whole ++ rest)); scale = length rest }
  value_is = rw (← sign, ← is_whole, ← is_fraction, low) refl

  pub kept : number (whole ++ rest) < 10 ^ 38 → length rest ≤ 38 → IsKept (record { unscaled = signed negative (number (whole ++ rest)); scale = length rest })
  kept narrow shallow = record {
    narrow = rw (unsigned_abs-signed negative (number (whole ++ rest))) narrow;
    shallow = shallow;
    reduced = rw (unsigned_abs-signed negative (number (whole ++ rest))) (let r = lowest-reduced (number (whole ++ fraction)) (length fraction) in rw low at r);
  }

  pub reads : is_literal text ≡ true → number (whole ++ rest) < 10 ^ 38 → length rest ≤ 38
      → Ok (record { unscaled = signed negative (number (whole ++ rest)); scale = length rest }) ≡ decimal_of text
  reads literal narrow shallow =
      let n : leb (10 ^ 38) (unsigned_abs (signed negative (number (whole ++ rest)))) ≡ false = rw (unsigned_abs-signed negative (number (whole ++ rest))) (grind (arith, nat_tests)) in
      let s : ltb 38 (length rest) ≡ false = grind (arith, nat_tests) in
      sym (ap (λ l. decision l (value_of text)) literal ∙ ap (decision true) value_is ∙ rw (n, s) refl)

  pub too_many_digits : is_literal text ≡ true → (number (whole ++ rest) < 10 ^ 38 → ⊥) → Err TooWide ≡ decimal_of text
  too_many_digits literal wide =
      let n : leb (10 ^ 38) (unsigned_abs (signed negative (number (whole ++ rest)))) ≡ true = rw (unsigned_abs-signed negative (number (whole ++ rest))) (grind (arith, nat_tests)) in
      sym (ap (λ l. decision l (value_of text)) literal ∙ ap (decision true) value_is ∙ rw n refl)

  -- the same of the code's integer, which is converted to its bits and back
  module _ (z : ℤ) (m : ℕ) (is : z ≡ signed negative m) (is_number : m ≡ number (whole ++ rest)) (below : number (whole ++ rest) < 10 ^ 38) where
    same_integer : to_z w128 (of_z w128 z) ≡ signed negative (number (whole ++ rest))
    same_integer =
        let e : z ≡ signed negative (number (whole ++ rest)) = is ∙ ap (signed negative) is_number in
        let abs : unsigned_abs z ≡ number (whole ++ rest) = ap unsigned_abs e ∙ unsigned_abs-signed negative (number (whole ++ rest)) in
        to_z-of_z w128 z (kept_fits z (omega (arith, abs, below))) ∙ e

    pub kept_integer : length rest ≤ 38 → IsKept (record { unscaled = to_z w128 (of_z w128 z); scale = length rest })
    kept_integer shallow = rw same_integer (kept below shallow)

-- ---- two kept values of one number are one value

equal_is : (x y : ℤ) → int_cmp x y ≡ Equal → x ≡ y
equal_is x y e = grind (arith, ints)

scale_at_most : (a b : Decimal) → (0 < a.scale → unsigned_abs a.unscaled % 10 ≢ 0)
    → a.unscaled *ℤ pos (10 ^ b.scale) ≡ b.unscaled *ℤ pos (10 ^ a.scale) → a.scale ≤ b.scale
scale_at_most a b reduced same =
    let abs : unsigned_abs b.unscaled * 10 ^ a.scale ≡ unsigned_abs a.unscaled * 10 ^ b.scale =
    sym (unsigned_abs-mul b.unscaled (pos (10 ^ a.scale))) ∙ ap unsigned_abs (sym same) ∙ unsigned_abs-mul a.unscaled (pos (10 ^ b.scale)) in
    least_scale (unsigned_abs b.unscaled) (unsigned_abs a.unscaled) a.scale 0 b.scale reduced
    (rw (add-zero) (abs ∙ omega arith))

pub one_value : (a b : Decimal) → IsKept a → IsKept b → order_of a b ≡ Equal → a ≡ b
one_value a b ka kb e =
    let same : a.unscaled *ℤ pos (10 ^ b.scale) ≡ b.unscaled *ℤ pos (10 ^ a.scale) = equal_is (a.unscaled *ℤ pos (10 ^ b.scale)) (b.unscaled *ℤ pos (10 ^ a.scale)) e in
    let up : a.scale ≤ b.scale = scale_at_most a b ka.reduced same in
    let down : b.scale ≤ a.scale = scale_at_most b a kb.reduced (sym same) in
    let scales : a.scale ≡ b.scale = omega (arith, up, down) in
    let values : a.unscaled ≡ b.unscaled = equal_is a.unscaled b.unscaled
    (sym (int_cmp-scaled a.unscaled b.unscaled (10 ^ b.scale) (ten_positive b.scale))
    ∙ ap (λ k. int_cmp (a.unscaled *ℤ pos (10 ^ b.scale)) (b.unscaled *ℤ pos (10 ^ k))) (sym scales) ∙ e) in
    let make : ℤ → ℕ → Decimal = λ u s. record { unscaled = u; scale = s } in
    ap (λ u. make u a.scale) values ∙ ap (make b.unscaled) scales

pub equal_where_one : (a b : Decimal) → IsKept a → IsKept b → (r : Ordering) → r ≡ order_of a b → (r ≡ Equal) ↔ (a ≡ b)
equal_where_one a b ka kb r e = (
  λ equal. one_value a b ka kb (sym e ∙ equal),
  λ same. e ∙ ap (λ x. order_of x b) same ∙ grind (arith, ints),
)

int_cmp-self : (x : ℤ) → int_cmp x x ≡ Equal
int_cmp-self x = grind (arith, ints)

-- a number has one lowest form
pub lowest_is_one : (a b c : Decimal) → IsLowestForm a c → IsLowestForm b c → a ≡ b
lowest_is_one a b c la lb =
    let up : a.scale ≤ b.scale = la.least b lb.same in
    let down : b.scale ≤ a.scale = lb.least a la.same in
    let scales : a.scale ≡ b.scale = omega (arith, up, down) in
    let products : a.unscaled *ℤ pos (10 ^ c.scale) ≡ b.unscaled *ℤ pos (10 ^ c.scale) =
    la.same ∙ ap (λ k. c.unscaled *ℤ pos (10 ^ k)) scales ∙ sym lb.same in
    let values : a.unscaled ≡ b.unscaled = equal_is a.unscaled b.unscaled
    (sym (int_cmp-scaled a.unscaled b.unscaled (10 ^ c.scale) (ten_positive c.scale))
    ∙ ap (λ p. int_cmp p (b.unscaled *ℤ pos (10 ^ c.scale))) products ∙ int_cmp-self (b.unscaled *ℤ pos (10 ^ c.scale))) in
    let make : ℤ → ℕ → Decimal = λ u s. record { unscaled = u; scale = s } in
    ap (λ u. make u a.scale) values ∙ ap (make b.unscaled) scales
