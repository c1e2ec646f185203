use Rattle.std.proofs.Common.{◌∙◌}
use Rattle.element_declarations.proofs.NamedLaws.{marks-more}
use Rattle.element_declarations.proofs.named.named_marks.Goals as goal

pub loop-particle-preserved : goal.loop-particle-preserved
loop-particle-preserved c = record {
  each = c.mark_element.ensures.each ∙ c.loop-particle.invariant.each;
  are = marks-more c.args.parts.now.particles.parts c.particles-particle-items.result.now c.loop-particle.particle-index c.particle-item.result c.loop-particle.marks.items c.mark_element.new.marks.items
      c.particles-particle-items.ensures.parts c.loop-particle-test.true c.particle-item.is c.mark_element.ensures.each c.loop-particle.invariant.are c.mark_element.ensures.marked;
}
