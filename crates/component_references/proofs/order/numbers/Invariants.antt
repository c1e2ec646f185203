use Rattle.component_references.specs.Order.{AreNumbers}
use Rattle.component_references.proofs.order.numbers.Given as goal

abbrev pub invariant-loop-x : goal.invariant-loop-x
invariant-loop-x l = AreNumbers l.x l.all.items
