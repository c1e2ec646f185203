use Rattle.std.proofs.Common.{◌≡◌, ◌+◌, ◌*◌, ◌<◌, length}
use Rattle.std.specs.Prelude.{All}
use Rattle.schema_set.specs.inside.Marks.{unmarked, IsReach}
use Rattle.schema_set.proofs.reaching.spread.Given as goal

abbrev pub invariant-loop-y : goal.invariant-loop-y
invariant-loop-y l = record {
  len : length l.seen ≡ length l.sources.available.now * length l.sources.available.now;
  todo : All (λ y. y < length l.sources.available.now * length l.sources.available.now) l.todo.items;
  reach : IsReach l.sources.available.now l.start l.seen l.todo.items;
}

abbrev pub decreases-loop-y : goal.decreases-loop-y
decreases-loop-y l = unmarked l.seen + length l.todo.items
