use Rattle.std.proofs.Common.{◌≡◌, ◌++◌, replicate}
use Rattle.xs_positions.specs.declared.walk.Task.TheVariants.{Visit}
use Rattle.xs_positions.proofs.walk.wait_for_copies.Given as goal

abbrev pub invariant-loop : goal.invariant-loop
invariant-loop l = l.tasks.items ≡ l.initial.tasks.items ++ replicate l.counter (Visit l.part)
