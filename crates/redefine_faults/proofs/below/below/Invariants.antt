use Rattle.std.proofs.Common.{◌+◌, length, map}
use Rattle.std.specs.Prelude.{nat_eq}
use Rattle.std.specs.HashSet.{contains}
use Rattle.redefine_faults.specs.inside.Below.{weight, IsSpreading}
use Rattle.redefine_faults.proofs.below.below.Given as goal

abbrev pub invariant-loop-item : goal.invariant-loop-item
invariant-loop-item l = IsSpreading l.numbered l.version (contains nat_eq l.seen) (map (λ r. r.now) l.found) l.left.items

abbrev pub decreases-loop-item : goal.decreases-loop-item
decreases-loop-item l = weight (contains nat_eq l.seen) l.numbered + length l.left.items
