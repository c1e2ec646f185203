use Rattle.component_references.specs.inside.Visits.{IsVisit, left}
use Rattle.component_references.proofs.visiting.in_order.Given as goal

abbrev pub invariant-loop-v : goal.invariant-loop-v
invariant-loop-v l = IsVisit l.refs l.states.items l.order.items l.todo.items

abbrev pub decreases-loop-v : goal.decreases-loop-v
decreases-loop-v l = left l.refs l.states.items l.todo.items
