use Rattle.std.proofs.Common.{◌≤◌, take}
use Rattle.std.specs.Prelude.{All, slice_index}
use Rattle.component_references.proofs.leveling.are_within.Given as goal

abbrev pub invariant-loop-x : goal.invariant-loop-x
invariant-loop-x l = All (λ y. slice_index l.levels y ≤ l.level) (take l.x-index l.xs)
