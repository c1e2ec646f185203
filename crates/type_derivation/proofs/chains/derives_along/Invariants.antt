use Rattle.std.proofs.Common.{◌↔◌}
use Rattle.component_references.specs.Heights.{IsType, type_height}
use Rattle.type_derivation.specs.inside.Along.{DerivesAlong}
use Rattle.type_derivation.proofs.chains.derives_along.Given as goal

abbrev pub invariant-up : goal.invariant-up
invariant-up l = IsType l.parts l.at × (DerivesAlong l.parts l.excluded l.fn.sub l.base ↔ DerivesAlong l.parts l.excluded l.at l.base)

abbrev pub decreases-up : goal.decreases-up
decreases-up l = type_height l.parts l.at
