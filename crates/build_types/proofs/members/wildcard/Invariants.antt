use Rattle.std.proofs.Common.{◌≡◌, drop}
use Rattle.build_types.specs.Members as spec
use Rattle.build_types.proofs.members.wildcard.Given as goal

abbrev pub invariant-loop-member : goal.invariant-loop-member
invariant-loop-member l = spec.wildcard l.source (drop l.member-index l.members) ≡ spec.wildcard l.source l.members
