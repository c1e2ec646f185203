use Rattle.std.proofs.Common.{◌↔◌}
use Rattle.component_references.specs.Heights.{IsType, type_height}
use Rattle.type_derivation.specs.Chains.{DerivesFromMember}
use Rattle.type_derivation.proofs.within.Within.derives_inside.Given as goal

abbrev pub invariant-up : goal.invariant-up
invariant-up l = IsType l.parts l.at × (DerivesFromMember l.parts l.excluded l.fn.sub l.self.base ↔ DerivesFromMember l.parts l.excluded l.at l.self.base)

abbrev pub decreases-up : goal.decreases-up
decreases-up l = type_height l.parts l.at
