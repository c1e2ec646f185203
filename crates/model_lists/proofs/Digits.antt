-- A greater number has no fewer digits.
use Rattle.std.proofs.Common.{ℕ, zero, suc, ◌/◌, ◌≤◌, arith}
use Rattle.child_trees.specs.Bits.{bits, bits_up_to}

digits_rise : (p q m n : ℕ) → m ≤ p → n ≤ q → m ≤ n → bits_up_to p m ≤ bits_up_to q n
digits_rise zero q m n a b l = omega arith
digits_rise (suc p) q zero n a b l = omega arith
digits_rise (suc p) zero (suc m) n a b l = absurd (omega arith)
digits_rise (suc p) (suc q) (suc m) zero a b l = absurd (omega arith)
digits_rise (suc p) (suc q) (suc m) (suc n) a b l =
    let h = digits_rise p q (suc m / 2) (suc n / 2) (omega arith) (omega arith) (omega arith) in omega arith

pub more_digits : (m n : ℕ) → m ≤ n → bits m ≤ bits n
more_digits m n l = digits_rise m n m n (omega arith) (omega arith) l
