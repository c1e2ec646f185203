use Rattle.std.proofs.Common.{refl}
use Rattle.derive_faults.proofs.FaultLaws.{coded-least}
use Rattle.derive_models.specs.ModelRestrictions.{Breaks}
use Rattle.derive_models.proofs.restriction_faults.fault_of.Goals as goal

pub returns : goal.returns
returns g c = record {
  least = λ members are. coded-least 9 c.args.set.now.parts.now (Breaks c.args.set.now.parts.now members c.args.set.now.terms.now (g.T.Derivation.derives c.args.set.now.types.now))
      refl c.args.id c.complex-part.result.now c.complex-part.ensures.part c.in_ok-code.code c.coded.result c.coded.ensures (c.in_ok-code.ensures.first members are);
}
