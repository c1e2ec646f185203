use Rattle.std.proofs.Common.{◌≡◌, ◌<◌, true, take, length}
use Rattle.std.specs.Prelude.{All}
use Rattle.component_references.specs.inside.Marks.{marked, IsMarking}
use Rattle.component_references.proofs.leading.mark.Given as goal

abbrev pub invariant-loop-y : goal.invariant-loop-y
invariant-loop-y l = record {
  marking : IsMarking l.xs l.initial.seen l.seen l.initial.todo.items l.todo.items;
  all : All (λ y. marked l.seen y ≡ true) (take l.y-index l.xs);
  todo : All (λ y. y < length l.seen) l.todo.items;
}
