use Rattle.type_derivation.proofs.TypeOrderLaws.{counted-more}
use Rattle.type_derivation.proofs.type_order.counted.Goals as goal

pub loop-number-preserved : goal.loop-number-preserved
loop-number-preserved c = rw c.in_ok-push.ensures.items (counted-more c.loop-number.number c.loop-number.numbers.items c.loop-number.invariant)
