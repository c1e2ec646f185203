use Rattle.xs_positions.proofs.Measuring.{sequence_step}
use Rattle.xs_positions.proofs.measures.measure_sequence.Goals as goal

pub loop-part-preserved : goal.loop-part-preserved
loop-part-preserved c = λ trees same.
    sequence_step trees _ _ c.loop-part.part-index c.part-item.result c.index.result _ c.loop-part.whole c.then-whole.result same c.requires c.loop-part-test.true
    c.part-item.is c.index.ensures (c.loop-part.invariant trees same) c.then-whole.ensures.size c.then-whole.ensures.nullable c.then-whole.ensures.inhabited
