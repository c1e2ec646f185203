use Rattle.derive_models.proofs.RestrictionLaws.{simple-code, forms-code}
use Rattle.derive_models.proofs.compared.model_code.Goals as goal

pub returns-then-is_simple : goal.returns-then-is_simple
returns-then-is_simple g c = record {
  first = λ members are. simple-code c.args.set.now.parts.now members c.args.set.now.terms.now (g.T.Derivation.derives c.args.set.now.types.now) c.args.id c.args.base.now c.content_of-content.result c.is_simple.result
      (c.content_of-content.ensures.content c.args.set.now.parts.now c.requires.compared.kinds) c.is_simple.ensures c.if-is_simple.true;
}

pub returns : goal.returns
returns g c = record {
  first = λ members are. forms-code c.args.set.now.parts.now members c.args.set.now.terms.now (g.T.Derivation.derives c.args.set.now.types.now) c.args.id c.args.base.now c.content_of-content.result c.is_simple.result c.forms_code.result
      (c.content_of-content.ensures.content c.args.set.now.parts.now c.requires.compared.kinds) c.is_simple.ensures c.if-is_simple.false (c.forms_code.ensures.first members are);
}
