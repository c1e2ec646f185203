use Rattle.std.proofs.Common.{◌≡◌, length}
use Rattle.simple_types.proofs.filling.unknown_types.Given as goal

abbrev pub invariant-loop : goal.invariant-loop
invariant-loop l = length l.table.items ≡ l.counter
