-- What the budget of a changed list has room for.
use Rattle.std.proofs.Common.{◌≡◌, ℕ, ◌+◌, ◌*◌, ◌≤◌, arith, mul-suc, mul-le-mul_right, add_comm, one-add}
use Rattle.child_trees.specs.Bits.{bits}
use Rattle.edit_budgets.specs.Budget.{list_budget}
use Rattle.edit_budgets.proofs.Room.{list-more}
use Rattle.kept_changes.specs.from_kept_children.Steps.{digits}

spread : (b a : ℕ) → 32 * (b + 1) * (1 + a) ≡ 32 * (b + 1) + 32 * (b + 1) * a
spread b a = rw (one-add a, mul-suc) (add_comm (32 * (b + 1) * a) (32 * (b + 1)))

room : (b a : ℕ) → 24 * (b + 1) + 1 + 16 * (b + 1) * a ≤ 32 * (b + 1) * (1 + a)
room b a =
    let e = spread b a in
    let r : 16 * (b + 1) * a ≤ 32 * (b + 1) * a = mul-le-mul_right {m = 16 * (b + 1)} {n = 32 * (b + 1)} a (omega arith) in
    omega (arith, e, r)

pub within : (most n a taken counted first last : ℕ) → most ≤ n → taken ≤ counted → last ≤ first + (24 * digits most + 1 + 16 * digits most * a + 3 * taken) → last ≤ first + (list_budget n a + 8 * counted)
within most n a taken counted first last le fits few =
    let r = room (bits (most + 1)) a in
    let more = list-more most n a le in
    omega (arith, r, more, fits, few)

pub within-node : (x taken counted first last : ℕ) → taken ≤ counted → last ≤ first + 3 * taken → last ≤ first + (x + 8 * counted)
within-node x taken counted first last fits few = omega (arith, fits, few)
