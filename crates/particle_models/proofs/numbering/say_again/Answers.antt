use Rattle.std.proofs.Common.{◌∙◌}
use Rattle.particle_models.proofs.Walking.{said_more}
use Rattle.particle_models.proofs.numbering.say_again.Goals as goal

pub loop-preserved : goal.loop-preserved
loop-preserved c =
    said_more c.args.numbers.now.items c.loop.numbers.items _ c.deref.result.now c.in_ok-part.part.items c.deref-in-loop.result.now c.args.from c.min-from.result c.loop.counter c.len.result (c.len.ensures ∙ c.args.numbers.now.ok.0) c.min-from.ensures c.deref.ensures.value c.in_ok-part.ensures.items c.deref-in-loop.ensures.value c.loop.invariant c.in_ok-extend_from_slice.ensures.items
