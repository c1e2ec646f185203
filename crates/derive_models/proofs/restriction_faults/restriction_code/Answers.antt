use Rattle.derive_models.proofs.RestrictionLaws.{restriction-code, no-code}
use Rattle.derive_models.proofs.restriction_faults.restriction_code.Goals as goal

pub model_code-requires-clause-base : goal.model_code-requires-clause-base
model_code-requires-clause-base g c = (c.requires.compared.ranked.complexes c.args.id c.args.part.now c.requires.part).there

pub returns-then-is_model_restriction : goal.returns-then-is_model_restriction
returns-then-is_model_restriction g c = record {
  first = λ members are. restriction-code c.args.set.now.parts.now members c.args.set.now.terms.now (g.T.Derivation.derives c.args.set.now.types.now) c.args.id c.args.part.now c.is_model_restriction.result c.model_code.result
      c.is_model_restriction.ensures c.if-is_model_restriction.true (c.model_code.ensures.first members are);
}

pub returns-else-is_model_restriction : goal.returns-else-is_model_restriction
returns-else-is_model_restriction g c = record {
  first = λ members are. no-code c.args.set.now.parts.now members c.args.set.now.terms.now (g.T.Derivation.derives c.args.set.now.types.now) c.args.id c.args.part.now c.is_model_restriction.result
      c.is_model_restriction.ensures c.if-is_model_restriction.false;
}
