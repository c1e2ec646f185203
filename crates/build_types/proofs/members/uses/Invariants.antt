use Rattle.std.proofs.Common.{◌≡◌, ◌++◌, drop}
use Rattle.build_types.specs.Members as spec
use Rattle.build_types.proofs.members.uses.Given as goal

abbrev pub invariant-loop-member : goal.invariant-loop-member
invariant-loop-member l = l.list ++ spec.uses l.source l.attributes (drop l.member-index l.members) ≡ spec.uses l.source l.attributes l.members
