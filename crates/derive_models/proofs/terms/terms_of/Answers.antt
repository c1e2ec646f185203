use Rattle.std.proofs.Common.{length, subst}
use Rattle.derive_models.specs.Steps.{AreSpaces}
use Rattle.derive_models.proofs.TermLaws.{terms-all}
use Rattle.derive_models.proofs.terms.terms_of.Goals as goal

pub returns-clause-terms : goal.returns-clause-terms
returns-clause-terms c =
    terms-all c.args.parts.now c.args.names.now c.args.fixed.now c.in_ok-flags.flags.items c.in_ok-terms.terms.items c.add_spaces.new.terms.items c.in_ok-flags.ensures.flags c.in_ok-terms.ensures.terms
    (subst (λ flags. AreSpaces c.args.parts.now flags (length c.args.parts.now.particles.parts) c.in_ok-terms.terms.items c.add_spaces.new.terms.items) c.deref.ensures.value c.in_ok-add_spaces.ensures)
