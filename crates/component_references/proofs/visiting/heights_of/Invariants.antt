use Rattle.component_references.specs.inside.Orders.{AreSet}
use Rattle.component_references.proofs.visiting.heights_of.Given as goal

abbrev pub invariant-loop-x : goal.invariant-loop-x
invariant-loop-x l = AreSet l.refs l.order l.ranks.items l.x-index
