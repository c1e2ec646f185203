use Rattle.std.proofs.Common.{ℕ, ◌<◌, ◌≤◌}
use Rattle.std.specs.Prelude.{All, slice_index}
use Rattle.component_references.specs.NumberedCircles.{refs_of}
use Rattle.component_references.proofs.leveling.never_rise.Given as goal

abbrev pub invariant-loop-x : goal.invariant-loop-x
invariant-loop-x l = (z : ℕ) → z < l.x → All (λ y. slice_index l.levels y ≤ slice_index l.levels z) (refs_of l.refs z)
