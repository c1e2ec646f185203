use Rattle.std.proofs.Common.{◌≡◌, ◌++◌, drop}
use Rattle.build_types.specs.SimpleTypes as spec
use Rattle.build_types.proofs.facet_steps.facets.Given as goal

abbrev pub invariant-loop-member : goal.invariant-loop-member
invariant-loop-member l = l.step ++ spec.facets l.source (drop l.member-index l.members) ≡ spec.facets l.source l.members
