use Rattle.std.proofs.Common.{arith}
use Rattle.kept_changes.proofs.Came.{free-above}
use Rattle.kept_changes.proofs.change.number_of_part.Goals as goal

pub prove-unreachable-requires : goal.prove-unreachable-requires
prove-unreachable-requires c =
    let above = free-above c.args.part.now c.next_free.ensures.tree in
    let same = c.next_free.ensures.next in
    let test = c.if-prove.true in
    omega (arith, above, same, test)
