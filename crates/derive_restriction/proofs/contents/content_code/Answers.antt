use Rattle.derive_restriction.proofs.ContentLaws.{simple-in, model-in, own-there}
use Rattle.derive_restriction.proofs.contents.content_code.Goals as goal

pub simple_code-requires-clause-own : goal.simple_code-requires-clause-own
simple_code-requires-clause-own c = own-there c.args.set.now.parts.now c.args.part.now.content c.requires.own c.in-Simple.own c.in-Simple.step c.in-Simple.is

pub returns-in-Simple : goal.returns-in-Simple
returns-in-Simple c = record {
  first = simple-in c.args.set.now.parts.now c.args.part.now c.content_of-content.result (c.content_of-content.ensures.content c.args.set.now.parts.now c.requires.contents) c.in-Simple.own c.in-Simple.step c.in-Simple.is c.simple_code.result c.simple_code.ensures.first;
}

pub returns-in-Complex : goal.returns-in-Complex
returns-in-Complex c = record {
  first = model-in c.args.set.now.parts.now c.args.part.now c.content_of-content.result (c.content_of-content.ensures.content c.args.set.now.parts.now c.requires.contents) c.in-Complex.effective c.in-Complex.mixed c.in-Complex.is
      c.has_emptiable_model-emptiable.result c.is_some.result c.model_code.result c.has_emptiable_model-emptiable.ensures c.is_some.ensures c.model_code.ensures;
}
