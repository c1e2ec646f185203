use Rattle.std.proofs.Common.{◌≡◌, ◌++◌, drop}
use Rattle.build_components.specs.Paths as spec
use Rattle.build_components.proofs.paths.fields.Given as goal

abbrev pub invariant-loop-member : goal.invariant-loop-member
invariant-loop-member l = l.list ++ spec.fields l.source (drop l.member-index l.members) ≡ spec.fields l.source l.members
