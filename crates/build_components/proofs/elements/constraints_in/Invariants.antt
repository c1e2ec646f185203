use Rattle.std.proofs.Common.{◌≡◌, ◌++◌, drop}
use Rattle.build_components.specs.Elements as spec
use Rattle.build_components.proofs.elements.constraints_in.Given as goal

abbrev pub invariant-loop-member : goal.invariant-loop-member
invariant-loop-member l = l.list ++ spec.constraints_in l.constraints (drop l.member-index l.members) ≡ spec.constraints_in l.constraints l.members
