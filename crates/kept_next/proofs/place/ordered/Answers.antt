use Rattle.std.proofs.Common.{◌<◌, ◌+◌, ◌^◌, List, ℕ, suc, length, ap, arith}
use Rattle.kept_next.proofs.Written.{order-few}
use Rattle.kept_next.proofs.place.ordered.Goals as goal

pub returns-in-Ok-clause-few : goal.returns-in-Ok-clause-few
returns-in-Ok-clause-few c =
    let own : List ℕ = c.names.result.now in
    let spaces : List ℕ = c.spaces.result.now in
    let names = ap (λ (xs : List ℕ). length xs) c.names.ensures in
    let others = ap (λ (xs : List ℕ). length xs) c.spaces.ensures in
    let few : suc (length own + length spaces) < 2 ^ 32 = omega (arith, names, others, c.count-count.ensures.count, c.count-count.type_inv) in
    let all = order-few c.args.names.now own spaces c.in-Ok.ordered c.in-Ok.ensures few in
    let same = ap length c.into_vec.ensures in
    omega (arith, all, same)
