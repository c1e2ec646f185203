use Rattle.xs_positions.proofs.Measuring.{choice_step}
use Rattle.xs_positions.proofs.measures.measure_choice.Goals as goal

pub loop-part-preserved : goal.loop-part-preserved
loop-part-preserved c = λ trees same.
    choice_step trees _ _ c.loop-part.part-index c.part-item.result c.index.result _ c.loop-part.whole c.or-whole.result same c.requires c.loop-part-test.true
    c.part-item.is c.index.ensures (c.loop-part.invariant trees same) c.or-whole.ensures.size c.or-whole.ensures.nullable c.or-whole.ensures.inhabited
