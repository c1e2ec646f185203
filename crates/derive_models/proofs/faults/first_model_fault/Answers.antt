use Rattle.std.proofs.Common.{sym, subst}
use Rattle.derive_models.specs.Fixed.{AreFixedNumbers}
use Rattle.derive_models.proofs.FaultLaws.{first-read}
use Rattle.derive_models.proofs.faults.first_model_fault.Goals as goal

pub returns-clause-first : goal.returns-clause-first
returns-clause-first c =
    first-read c.args.set.now.parts.now c.args.set.now.names.now c.args.set.now.members.now c.deref.result.now c.args.pairs.now c.in_ok-derivations.derivations.parts.now c.in_ok-derivations.ensures.parts
    (subst (AreFixedNumbers c.args.set.now.parts.now) (sym c.deref.ensures.value) c.in_ok-fixed.ensures.numbers) c.first_restriction_fault.result c.first_restriction_fault.ensures.least
