-- How many digits bound a number, and the height of a list's tree.
use Rattle.std.proofs.Common.{◌≡◌, ℕ, zero, suc, ◌+◌, ◌*◌, ◌/◌, ◌^◌, ◌<◌, ◌≤◌, arith, pow-suc}
use Rattle.leaf_trees.specs.Tree.{Tree, size, height, IsAvl}
use Rattle.leaf_trees.proofs.Height.{height_bound}
use Rattle.child_trees.specs.Bits.{bits, bits_up_to}

digits_bound : (most n : ℕ) → n ≤ most → n < 2 ^ bits_up_to most n
digits_bound zero n le = omega arith
digits_bound (suc most) zero le = omega arith
digits_bound (suc most) (suc n) le =
    let b = digits_bound most (suc n / 2) (omega arith) in
    rw pow-suc (omega (arith, b))

pub bits_bound : (n : ℕ) → n < 2 ^ bits n
bits_bound n = digits_bound n n (omega arith)

-- a walk down a tree
pub walk_bound : (t : Tree) (n : ℕ) → IsAvl t → size t ≡ n → 2 * height t + 1 ≤ 8 * (bits (n + 1) + 1)
walk_bound t n avl e =
    let b = bits_bound (n + 1) in
    let h = height_bound (bits (n + 1)) t avl (omega (arith, b, e)) in
    omega (arith, h)
