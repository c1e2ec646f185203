use Rattle.std.proofs.Common.{◌≡◌, ◌++◌, drop}
use Rattle.build_types.specs.Members as spec
use Rattle.build_types.proofs.members.prohibited.Given as goal

abbrev pub invariant-loop-member : goal.invariant-loop-member
invariant-loop-member l = l.list ++ spec.prohibited l.source (drop l.member-index l.members) ≡ spec.prohibited l.source l.members
