use Rattle.std.proofs.Common.{◌≡◌, drop}
use Rattle.schema_faults.specs.Children.{follows}
use Rattle.schema_faults.proofs.children.follows.Given as goal

abbrev pub invariant-loop-step : goal.invariant-loop-step
invariant-loop-step l = follows (drop l.step-index l.steps) l.left ≡ follows l.steps l.tags
