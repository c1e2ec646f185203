use Rattle.std.proofs.Common.{◌≡◌, ◌<◌, true, take, length}
use Rattle.std.specs.Prelude.{All}
use Rattle.schema_set.specs.inside.Marks.{marked, IsMarking}
use Rattle.schema_set.proofs.reaching.mark.Given as goal

abbrev pub invariant-loop-y : goal.invariant-loop-y
invariant-loop-y l = record {
  marking : IsMarking l.xs l.initial.seen l.seen l.initial.todo.items l.todo.items;
  all : All (λ y. marked l.seen y ≡ true) (take l.y-index l.xs);
  todo : All (λ y. y < length l.seen) l.todo.items;
}
