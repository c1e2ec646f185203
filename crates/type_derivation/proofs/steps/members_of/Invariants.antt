use Rattle.std.proofs.Common.{◌≡◌}
use Rattle.component_references.specs.Heights.{IsType, type_height}
use Rattle.type_derivation.specs.Derives as spec
use Rattle.type_derivation.proofs.steps.members_of.Given as goal

abbrev pub invariant-up : goal.invariant-up
invariant-up l = IsType l.parts l.at × (spec.members_of l.parts l.fn.of ≡ spec.members_of l.parts l.at)

abbrev pub decreases-up : goal.decreases-up
decreases-up l = type_height l.parts l.at
