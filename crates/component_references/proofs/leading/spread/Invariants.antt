use Rattle.std.proofs.Common.{◌≡◌, ◌+◌, ◌<◌, length}
use Rattle.std.specs.Prelude.{All}
use Rattle.component_references.specs.inside.Marks.{unmarked, IsReach}
use Rattle.component_references.proofs.leading.spread.Given as goal

abbrev pub invariant-loop-y : goal.invariant-loop-y
invariant-loop-y l = record {
  len : length l.seen ≡ length l.refs;
  todo : All (λ y. y < length l.refs) l.todo.items;
  reach : IsReach l.refs l.x l.seen l.todo.items;
}

abbrev pub decreases-loop-y : goal.decreases-loop-y
decreases-loop-y l = unmarked l.seen + length l.todo.items
