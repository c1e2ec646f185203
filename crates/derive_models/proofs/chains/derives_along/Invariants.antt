use Rattle.std.proofs.Common.{◌↔◌}
use Rattle.component_references.specs.Heights.{IsType, type_height}
use Rattle.type_derivation.specs.Chains.{Derives}
use Rattle.derive_models.specs.Derivation as spec
use Rattle.derive_models.proofs.chains.derives_along.Given as goal

abbrev pub invariant-up : goal.invariant-up
invariant-up l = IsType l.parts l.at × (Derives l.parts spec.excluded l.fn.sub l.base ↔ Derives l.parts spec.excluded l.at l.base)

abbrev pub decreases-up : goal.decreases-up
decreases-up l = type_height l.parts l.at
