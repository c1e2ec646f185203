-- What the budget of a list has room for.
use Rattle.std.proofs.Common.{◌≡◌, ℕ, zero, suc, ◌+◌, ◌*◌, ◌/◌, ◌≤◌, arith, mul-suc, mul-le-mul_right, add_comm, one-add}
use Rattle.child_trees.specs.Bits.{bits, bits_up_to}
use Rattle.edit_budgets.specs.Budget.{list_budget}

more-digits : (k l a b : ℕ) → a ≤ b → a ≤ k → b ≤ l → bits_up_to k a ≤ bits_up_to l b
more-digits zero l a b ab ak bl = omega arith
more-digits (suc k) l zero b ab ak bl = omega arith
more-digits (suc k) zero (suc a) b ab ak bl = absurd (omega arith)
more-digits (suc k) (suc l) (suc a) zero ab ak bl = absurd (omega arith)
more-digits (suc k) (suc l) (suc a) (suc b) ab ak bl =
    let r = more-digits k l (suc a / 2) (suc b / 2) (omega arith) (omega arith) (omega arith) in omega (arith, r)

-- a greater number has no fewer digits
pub more-bits : (a b : ℕ) → a ≤ b → bits a ≤ bits b
more-bits a b le = more-digits a b a b le (omega arith) (omega arith)

spread : (b a : ℕ) → 32 * (b + 1) * (1 + a) ≡ 32 * (b + 1) + 32 * (b + 1) * a
spread b a = rw (one-add a, mul-suc) (add_comm (32 * (b + 1) * a) (32 * (b + 1)))

room : (b a : ℕ) → 16 * (b + 1) + (8 * (b + 1) + 1 + 8 * (b + 1) * a) ≤ 32 * (b + 1) * (1 + a)
room b a =
    let e = spread b a in
    let r : 8 * (b + 1) * a ≤ 32 * (b + 1) * a = mul-le-mul_right {m = 8 * (b + 1)} {n = 32 * (b + 1)} a (omega arith) in
    omega (arith, e, r)

pub list-room : (n a : ℕ) → 16 * (bits (n + 1) + 1) + (8 * (bits (n + 1) + 1) + 1 + 8 * (bits (n + 1) + 1) * a) ≤ list_budget n a
list-room n a = room (bits (n + 1)) a

pub list-more : (n m a : ℕ) → n ≤ m → list_budget n a ≤ list_budget m a
list-more n m a le =
    let r = more-bits (n + 1) (m + 1) (omega arith) in
    mul-le-mul_right {m = 32 * (bits (n + 1) + 1)} {n = 32 * (bits (m + 1) + 1)} (1 + a) (omega (arith, r))
