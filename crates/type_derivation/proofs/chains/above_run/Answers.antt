use Rattle.type_derivation.proofs.RunLaws.{looked-there, stops, goes}
use Rattle.type_derivation.proofs.chains.above_run.Goals as goal

pub above-requires : goal.above-requires
above-requires c =
    looked-there c.args.parts.now c.requires.ranked c.args.bases.now c.requires.bases c.args.excluded.now c.args.of.now c.requires.there
    c.line-line.result c.line-first_line.result c.first-first.result c.line-line.ensures c.first-first.ensures c.line-first_line.ensures

pub returns-then-is_free_below : goal.returns-then-is_free_below
returns-then-is_free_below c = record {
  up = λ base other.
      goes c.args.parts.now c.requires.ranked c.args.bases.now c.requires.bases c.args.excluded.now c.args.of.now c.requires.there
      c.line-line.result c.line-first_line.result c.first-first.result c.line-line.ensures c.first-first.ensures c.line-first_line.ensures
      c.is_free_below.result c.is_free_below.ensures c.if-is_free_below.true c.above.result c.above.ensures base other;
}

pub returns-else-is_free_below : goal.returns-else-is_free_below
returns-else-is_free_below c = record {
  up = λ base other.
      stops c.args.parts.now c.requires.ranked c.args.bases.now c.requires.bases c.args.excluded.now c.args.of.now c.requires.there
      c.line-line.result c.line-first_line.result c.first-first.result c.line-line.ensures c.first-first.ensures c.line-first_line.ensures
      c.is_free_below.result c.is_free_below.ensures c.if-is_free_below.false base other;
}
