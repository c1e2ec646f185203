use Rattle.std.proofs.Common.{◌≡◌, ◌++◌, ◌<◌, length}
use Rattle.std.specs.Prelude.{All}
use Rattle.xs_positions.specs.Tree.{symbols}
use Rattle.xs_positions.specs.Walk.{tree_in}
use Rattle.xs_positions.specs.Listing.{waiting, steps_of}
use Rattle.xs_positions.proofs.symbols.list_symbols.Given as goal

abbrev pub invariant-loop-id : goal.invariant-loop-id
invariant-loop-id l = record {
  known : All (λ id. id < length l.nodes) l.todo.items;
  same : l.listed.items ++ waiting l.nodes l.todo.items ≡ symbols (tree_in l.nodes l.fn.root);
}

abbrev pub decreases-loop-id : goal.decreases-loop-id
decreases-loop-id l = steps_of l.nodes l.todo.items
