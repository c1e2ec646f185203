use Rattle.content_automaton.proofs.Putting.{put_step}
use Rattle.content_automaton.proofs.sets.put_at.Goals as goal

pub loop-n-preserved : goal.loop-n-preserved
loop-n-preserved c =
    put_step (λ set. set.items) c.args.sets.now.items c.loop-n.sets.items c.args.row.now c.args.p c.loop-n.n-index c.index_mut.result.now c.push.new.self
    c.loop-n.invariant c.requires.rises c.requires.below c.loop-n-test.true c.index_mut.ensures.value c.in_ok-push.ensures.items
