use Rattle.component_references.specs.inside.Visits.{ArePlaced}
use Rattle.component_references.proofs.visiting.all_waiting.Given as goal

abbrev pub invariant-loop-x : goal.invariant-loop-x
invariant-loop-x l = ArePlaced l.x l.todo.items
