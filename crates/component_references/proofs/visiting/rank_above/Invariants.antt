use Rattle.std.proofs.Common.{◌≡◌, take}
use Rattle.component_references.specs.NumberedCircles.{rank_above}
use Rattle.component_references.proofs.visiting.rank_above.Given as goal

abbrev pub invariant-loop-x : goal.invariant-loop-x
invariant-loop-x l = l.least ≡ rank_above l.ranks (take l.x-index l.parts)
