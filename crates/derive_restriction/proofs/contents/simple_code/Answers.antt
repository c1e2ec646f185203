use Rattle.derive_restriction.proofs.ContentLaws.{simple-first}
use Rattle.derive_restriction.proofs.contents.simple_code.Goals as goal

pub returns : goal.returns
returns c = record {
  first = simple-first c.args.set.now.parts.now c.args.base.now c.args.content c.args.own c.in_ok-derived.derived c.has_emptiable_model-emptiable.result c.is_other-other.result c.when.result
      c.in_ok-derived.ensures.derived c.has_emptiable_model-emptiable.ensures c.is_other-other.ensures c.when.ensures;
}
