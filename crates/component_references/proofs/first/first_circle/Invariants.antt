use Rattle.std.proofs.Common.{map}
use Rattle.xs_codes.specs.Least.{IsLeast}
use Rattle.component_references.proofs.CircleLaws.{BackBelow}
use Rattle.component_references.proofs.first.first_circle.Given as goal

abbrev pub invariant-loop-i : goal.invariant-loop-i
invariant-loop-i g l = IsLeast (BackBelow (map g.T.Placed.place_of l.parts) l.refs l.first l.code l.i) l.best
