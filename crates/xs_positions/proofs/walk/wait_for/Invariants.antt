use Rattle.std.proofs.Common.{◌≡◌, ◌≤◌, ◌++◌, length, drop, map, reverse}
use Rattle.xs_positions.specs.declared.walk.Task.TheVariants.{Visit}
use Rattle.xs_positions.proofs.walk.wait_for.Given as goal

abbrev pub invariant-loop-i : goal.invariant-loop-i
invariant-loop-i l = record {
  within : l.i ≤ length l.parts;
  so_far : l.tasks.items ≡ l.initial.tasks.items ++ reverse (map Visit (drop l.i l.parts));
}

abbrev pub decreases-loop-i : goal.decreases-loop-i
decreases-loop-i l = l.i
