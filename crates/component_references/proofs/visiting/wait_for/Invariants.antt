use Rattle.std.proofs.Common.{◌≡◌, ◌++◌, map, take}
use Rattle.component_references.specs.inside.Visits.{waiting}
use Rattle.component_references.proofs.visiting.wait_for.Given as goal

abbrev pub invariant-loop-y : goal.invariant-loop-y
invariant-loop-y l = l.todo.items ≡ l.initial.todo.items ++ map waiting (take l.y-index l.refs)
