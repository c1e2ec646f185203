use Rattle.component_tables.proofs.LineLaws.{simples-below, complexes-below, all-lines}
use Rattle.component_tables.proofs.bases.BaseLines.of.Goals as goal

pub lines_of-requires-clause-lower : goal.lines_of-requires-clause-lower
lines_of-requires-clause-lower c =
    simples-below c.args.parts.now c.requires.ranked c.as_slice.result.now c.in_ok-simple.simple.items c.as_slice.ensures.value c.in_ok-simple.ensures
    c.simple_ranks.result.now c.simple_ranks.ensures.ranks c.simple_ranks.ensures.alike

pub lines_of-requires-2-clause-lower : goal.lines_of-requires-2-clause-lower
lines_of-requires-2-clause-lower c =
    complexes-below c.args.parts.now c.requires.ranked c.as_slice-2.result.now c.in_ok-complex.complex.items c.as_slice-2.ensures.value c.in_ok-complex.ensures
    c.complex_ranks.result.now c.complex_ranks.ensures.ranks c.complex_ranks.ensures.alike

pub returns : goal.returns
returns c = record {
  lines = all-lines c.args.parts.now c.requires.ranked c.as_slice-2.result.now c.in_ok-complex.complex.items c.as_slice-2.ensures.value c.in_ok-complex.ensures
      c.complex_ranks.result.now c.complex_ranks.ensures.ranks c.complex_ranks.ensures.alike
      c.as_slice.result.now c.in_ok-simple.simple.items c.as_slice.ensures.value c.in_ok-simple.ensures
      c.simple_ranks.result.now c.simple_ranks.ensures.ranks c.simple_ranks.ensures.alike
      c.in_ok-simples.simples.items c.in_ok-complexes.complexes.items c.in_ok-simples.ensures.lines c.in_ok-complexes.ensures.lines;
}
