use Rattle.component_references.proofs.OrderLaws.{numbers-more}
use Rattle.component_references.proofs.order.numbers.Goals as goal

pub loop-x-preserved : goal.loop-x-preserved
loop-x-preserved c = rw c.in_ok-push.ensures.items (numbers-more c.loop-x.x c.loop-x.all.items c.loop-x.invariant)
