use Rattle.std.proofs.Common.{◌≡◌, [], length}
use Rattle.facets.specs.Making.{plains_behind}
use Rattle.facets.proofs.making.plains_of.Given as goal

abbrev pub invariant-members : goal.invariant-members
invariant-members l = plains_behind l.plains l.members ≡ plains_behind [] l.union_of.members

abbrev pub decreases-members : goal.decreases-members
decreases-members l = length l.members
