use Rattle.std.proofs.Common.{◌≡◌, ◌++◌, length, map}
use Rattle.facets.specs.UnionMembers.{gate_of}
use Rattle.facets.proofs.members.gates_of.Given as goal

abbrev pub invariant-groups : goal.invariant-groups
invariant-groups l = l.gates ++ map gate_of l.groups ≡ l.union_of.gates

abbrev pub decreases-groups : goal.decreases-groups
decreases-groups l = length l.groups
