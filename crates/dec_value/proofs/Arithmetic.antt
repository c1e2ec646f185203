-- Powers of ten, and the order of integers and of their products by a power.
use Rattle.std.proofs.Common.{◌≡◌, ℕ, zero, suc, ◌-◌, ◌*◌, ◌^◌, ◌<◌, ◌≤◌, refl, sym, ap, ◌∙◌, arith, ℤ, pos, negsuc, neg_ℤ, ◌*ℤ◌, FitsSigned, to_z, of_z, true, false, ltb, Ordering, inl, inr, lit<}
use Rattle.std.proofs.lemmas.Int.{ints, to_z-of_z, to_z_pos, fits_signed_from_abs}
use Rattle.std.proofs.lemmas.Nat.{pow-add}
use Rattle.std.proofs.lemmas.Bool.Decides.{nat_tests}
use Rattle.std.proofs.Math.Nat.{pow-le-pow_right, one-le-pow, mul-lt-mul_of_pos_right, mul-le-mul_right, mul-pos, mul_assoc}
use Rattle.std.proofs.lemmas.Bool.{cases_lt}
use lib.Signed.{◌<ℤ◌, ◌≤ℤ◌, mag, lt_z, lt_z_yes}
use Rattle.std.specs.Int.RustNames.{unsigned_abs}
use borrow.Author.Tests.{lt-ltb}
use Rattle.std.proofs.lemmas.Cmp.{int_cmp_total}
use Rattle.std.specs.Ordering.{int_cmp, ordering_reverse}
use Rattle.std.specs.declared.cmp.Ordering.TheVariants.{Less, Greater}
use Rattle.std.specs.Int.{w128}

pub ten_fits : (k : ℕ) → k ≤ 38 → 10 ^ k ≤ 10 ^ 38
ten_fits k h = pow-le-pow_right (lit< tt) h

pub ten_fits_unsigned : (k : ℕ) → k ≤ 38 → 10 ^ k < 2 ^ 128
ten_fits_unsigned k h = omega (arith, ten_fits k h)

pub ten_fits_signed : (k : ℕ) → k ≤ 38 → FitsSigned w128 (pos (10 ^ k))
ten_fits_signed k h = record { sfits = omega (arith, ten_fits k h) }

pub ten_positive : (k : ℕ) → 0 < 10 ^ k
ten_positive k = omega (arith, one-le-pow k 10 (lit< tt))

-- ---- the order of integers

large : (x : ℤ) → (FitsSigned w128 x → ⊥) → 2 ^ 127 ≤ mag x
large x h = elim (cases_lt (mag x) (2 ^ 127)) [ inl l ↦ absurd (h (record { sfits = l })) | inr g ↦ g ]

-- a product past the integers of 128 bits lies below each of them where it is negative, and else above
pub below_all : (x b : ℤ) → (FitsSigned w128 x → ⊥) → FitsSigned w128 b → x <ℤ pos 0 → int_cmp x b ≡ Less
below_all (pos n) b h f l = grind (arith, ints)
below_all (negsuc n) (pos m) h f l = refl
below_all (negsuc n) (negsuc m) h f l =
    let k : m < n = omega (arith, large (negsuc n) h, f.sfits) in
    rw (lt-ltb m n k) refl

pub above_all : (x b : ℤ) → (FitsSigned w128 x → ⊥) → FitsSigned w128 b → pos 0 ≤ℤ x → int_cmp x b ≡ Greater
above_all (negsuc n) b h f l = grind (arith, ints)
above_all (pos n) (negsuc m) h f l = refl
above_all (pos n) (pos m) h f l =
    let k : m < n = omega (arith, large (pos n) h, f.sfits) in
    let o : ltb n m ≡ false = grind (arith, nat_tests) in
    rw (o, lt-ltb m n k) refl

-- the code's product of an integer and a power of ten, which are converted to their bits and back
pub product_is : (x : ℤ) (m k : ℕ) → FitsSigned w128 x → m ≡ 10 ^ k → k ≤ 38 → to_z w128 (of_z w128 x) *ℤ to_z w128 m ≡ x *ℤ pos (10 ^ k)
product_is x m k f e h = rw (to_z-of_z w128 x f, e, to_z_pos w128 (10 ^ k) (omega (arith, ten_fits k h))) refl

neg_pos : (m : ℕ) → 0 < m → neg_ℤ (pos m) ≡ negsuc (m - 1)
neg_pos zero h = absurd (omega arith)
neg_pos (suc m) h = ap negsuc (omega arith)

-- the sign of a product by a positive number is that of the integer
pub negative_product : (x : ℤ) (p : ℕ) → 0 < p → x <ℤ pos 0 → (x *ℤ pos p) <ℤ pos 0
negative_product (pos n) p h l = grind (arith, ints)
negative_product (negsuc n) p h l = rw (neg_pos (suc n * p) (mul-pos (omega arith) h)) (lt_z_yes tt)

pub other_product : (x : ℤ) (p : ℕ) → pos 0 ≤ℤ x → pos 0 ≤ℤ (x *ℤ pos p)
other_product (pos n) p l = grind (arith, ints)
other_product (negsuc n) p l = grind (arith, ints)

ltb-scaled : (a b p : ℕ) → 0 < p → ltb (a * p) (b * p) ≡ ltb a b
ltb-scaled a b p h = elim (cases_lt a b) [
  | inl l ↦ lt-ltb (a * p) (b * p) (mul-lt-mul_of_pos_right l h) ∙ sym (lt-ltb a b l)
  | inr g ↦ let k : b * p ≤ a * p = mul-le-mul_right p g in grind (arith, nat_tests)
]

ltb-below : (a b p : ℕ) → 0 < p → ltb (suc a * p - 1) (suc b * p - 1) ≡ ltb a b
ltb-below a b p h = elim (cases_lt a b) [
  | inl l ↦ let k : suc a * p < suc b * p = mul-lt-mul_of_pos_right (omega arith) h in
      let o : 0 < suc a * p = mul-pos (omega arith) h in
      let q : suc a * p - 1 < suc b * p - 1 = omega (arith, k, o) in
      lt-ltb (suc a * p - 1) (suc b * p - 1) q ∙ sym (lt-ltb a b l)
  | inr g ↦ let k : suc b * p ≤ suc a * p = mul-le-mul_right p (omega arith) in
      let q : suc b * p - 1 ≤ suc a * p - 1 = omega (arith, k) in grind (arith, nat_tests)
]

-- the order of two products by one positive number is that of the integers
pub int_cmp-scaled : (x y : ℤ) (p : ℕ) → 0 < p → int_cmp (x *ℤ pos p) (y *ℤ pos p) ≡ int_cmp x y
int_cmp-scaled (pos a) (pos b) p h = rw (ltb-scaled a b p h, ltb-scaled b a p h) refl
int_cmp-scaled (pos a) (negsuc b) p h = rw (neg_pos (suc b * p) (mul-pos (omega arith) h)) refl
int_cmp-scaled (negsuc a) (pos b) p h = rw (neg_pos (suc a * p) (mul-pos (omega arith) h)) refl
int_cmp-scaled (negsuc a) (negsuc b) p h =
    rw (neg_pos (suc a * p) (mul-pos (omega arith) h), neg_pos (suc b * p) (mul-pos (omega arith) h), ltb-below b a p h, ltb-below a b p h) refl

pub *ℤ-assoc_pos : (x : ℤ) (p q : ℕ) → 0 < p → (x *ℤ pos p) *ℤ pos q ≡ x *ℤ pos (p * q)
*ℤ-assoc_pos (pos a) p q h = ap pos (mul_assoc a p q)
*ℤ-assoc_pos (negsuc a) p q h =
    let o : 0 < suc a * p = mul-pos (omega arith) h in
    let e : suc (suc a * p - 1) ≡ suc a * p = omega (arith, o) in
    rw (neg_pos (suc a * p) o, e, mul_assoc (suc a) p q) refl

-- the order of i / 10 ^ s and j / 10 ^ t, by the products across, is that of i * 10 ^ (t - s) and j
pub compared : (x y : ℤ) (s t : ℕ) → s ≤ t → int_cmp (x *ℤ pos (10 ^ (t - s))) y ≡ int_cmp (x *ℤ pos (10 ^ t)) (y *ℤ pos (10 ^ s))
compared x y s t h =
    let e : 10 ^ (t - s) * 10 ^ s ≡ 10 ^ t = sym (pow-add 10 (t - s) s) ∙ ap (λ k. 10 ^ k) (omega arith) in
    sym (int_cmp-scaled (x *ℤ pos (10 ^ (t - s))) y (10 ^ s) (ten_positive s))
    ∙ ap (λ z. int_cmp z (y *ℤ pos (10 ^ s))) (*ℤ-assoc_pos x (10 ^ (t - s)) (10 ^ s) (ten_positive (t - s)) ∙ ap (λ p. x *ℤ pos p) e)

pub int_cmp-reverse : (x y : ℤ) → ordering_reverse (int_cmp x y) ≡ int_cmp y x
int_cmp-reverse x y = sym (int_cmp_total.antisymm y x)

-- ---- the same of the code's values, which are converted to their bits and back

module _ (x y : ℤ) (m k : ℕ) (fx : FitsSigned w128 x) (fy : FitsSigned w128 y) (e : m ≡ 10 ^ k) (h : k ≤ 38) where
  pub within : (p : ℤ) (r : Ordering) → FitsSigned w128 (to_z w128 (of_z w128 x) *ℤ to_z w128 m) × (p ≡ to_z w128 (of_z w128 x) *ℤ to_z w128 m)
      → r ≡ int_cmp (to_z w128 (of_z w128 p)) (to_z w128 (of_z w128 y)) → r ≡ int_cmp (x *ℤ pos (10 ^ k)) y
  within p r is a =
      let fp : FitsSigned w128 p = rw is.1 is.0 in
      a ∙ rw (to_z-of_z w128 p fp, to_z-of_z w128 y fy, is.1, product_is x m k fx e h) refl

  pub past_below : (FitsSigned w128 (to_z w128 (of_z w128 x) *ℤ to_z w128 m) → ⊥) → lt_z (to_z w128 (of_z w128 x)) (pos 0) ≡ true
      → Less ≡ int_cmp (x *ℤ pos (10 ^ k)) y
  past_below miss t =
      let u : lt_z x (pos 0) ≡ true = rw (to_z-of_z w128 x fx) at t in
      sym (below_all (x *ℤ pos (10 ^ k)) y (λ f. miss (rw (product_is x m k fx e h) f)) fy
      (negative_product x (10 ^ k) (ten_positive k) (grind (arith, ints))))

  pub past_above : (FitsSigned w128 (to_z w128 (of_z w128 x) *ℤ to_z w128 m) → ⊥) → lt_z (to_z w128 (of_z w128 x)) (pos 0) ≡ false
      → Greater ≡ int_cmp (x *ℤ pos (10 ^ k)) y
  past_above miss t =
      let u : lt_z x (pos 0) ≡ false = rw (to_z-of_z w128 x fx) at t in
      sym (above_all (x *ℤ pos (10 ^ k)) y (λ f. miss (rw (product_is x m k fx e h) f)) fy
      (other_product x (10 ^ k) (grind (arith, ints))))

pub kept_fits : (x : ℤ) → unsigned_abs x < 10 ^ 38 → FitsSigned w128 x
kept_fits x h = fits_signed_from_abs w128 x (omega (arith, h))

pub compared_bits : (x y : ℤ) (s t : ℕ) (r : Ordering) → unsigned_abs x < 10 ^ 38 → unsigned_abs y < 10 ^ 38 → s ≤ t
    → r ≡ int_cmp (to_z w128 (of_z w128 x) *ℤ pos (10 ^ (t - s))) (to_z w128 (of_z w128 y))
    → r ≡ int_cmp (x *ℤ pos (10 ^ t)) (y *ℤ pos (10 ^ s))
compared_bits x y s t r hx hy le a =
    a ∙ rw (to_z-of_z w128 x (kept_fits x hx), to_z-of_z w128 y (kept_fits y hy)) (compared x y s t le)

-- the same with the two numbers the other way round
pub compared_back : (x y : ℤ) (s t : ℕ) (r q : Ordering) → unsigned_abs x < 10 ^ 38 → unsigned_abs y < 10 ^ 38 → t < s → q ≡ ordering_reverse r
    → r ≡ int_cmp (to_z w128 (of_z w128 y) *ℤ pos (10 ^ (s - t))) (to_z w128 (of_z w128 x))
    → q ≡ int_cmp (x *ℤ pos (10 ^ t)) (y *ℤ pos (10 ^ s))
compared_back x y s t r q hx hy lt e a =
    e ∙ ap ordering_reverse (compared_bits y x t s r hy hx (omega arith) a) ∙ int_cmp-reverse (y *ℤ pos (10 ^ s)) (x *ℤ pos (10 ^ t))
