use Rattle.elem_governing.proofs.DerivedLaws.{answer-tested}
use Rattle.elem_governing.proofs.derivation.is_derived.Goals as goal

pub returns : goal.returns
returns c = record {
  tested = answer-tested c.args.parts.now c.args.excluded.now c.args.sub c.args.base c.requires.ranked c.requires.sub c.requires.base c.derives.result c.derives.ensures.derives;
}
