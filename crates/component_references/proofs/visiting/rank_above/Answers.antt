use Rattle.std.proofs.Common.{arith}
use Rattle.component_references.proofs.FirstLaws.{above-next}
use Rattle.component_references.proofs.visiting.rank_above.Goals as goal

pub loop-x-preserved : goal.loop-x-preserved
loop-x-preserved c =
    let more = above-next c.args.ranks.now c.args.parts.now c.loop-x.x-index c.loop-x-test.true in
    omega (arith, more, c.loop-x.invariant, c.max-least.ensures, c.in-Some.ensures, c.number_at.ensures, c.in-Some.is, c.checked_add.ensures)
