use Rattle.std.proofs.Common.{◌≡◌, drop}
use Rattle.build_components.specs.Paths as spec
use Rattle.build_components.proofs.paths.selector.Given as goal

abbrev pub invariant-loop-member : goal.invariant-loop-member
invariant-loop-member l = spec.selector l.source (drop l.member-index l.members) ≡ spec.selector l.source l.members
