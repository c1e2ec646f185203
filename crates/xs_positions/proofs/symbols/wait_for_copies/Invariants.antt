use Rattle.std.proofs.Common.{◌≡◌, ◌++◌, replicate}
use Rattle.xs_positions.proofs.symbols.wait_for_copies.Given as goal

abbrev pub invariant-loop : goal.invariant-loop
invariant-loop l = l.todo.items ≡ l.initial.todo.items ++ replicate l.counter l.part
