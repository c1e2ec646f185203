use Rattle.std.proofs.Common.{◌≡◌, ◌++◌, drop}
use Rattle.build_types.specs.Members as spec
use Rattle.build_types.proofs.members.groups_referred.Given as goal

abbrev pub invariant-loop-member : goal.invariant-loop-member
invariant-loop-member l = l.list ++ spec.groups_referred l.source l.groups (drop l.member-index l.members) ≡ spec.groups_referred l.source l.groups l.members
