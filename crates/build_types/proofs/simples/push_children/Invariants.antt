use Rattle.std.proofs.Common.{◌≡◌, ◌++◌, drop}
use Rattle.build_types.specs.SimpleTypes as spec
use Rattle.build_types.proofs.simples.push_children.Given as goal

abbrev pub invariant-loop-member : goal.invariant-loop-member
invariant-loop-member l = l.list ++ spec.child_types l.source l.types (drop l.member-index l.members) ≡ l.initial.list ++ spec.child_types l.source l.types l.members
