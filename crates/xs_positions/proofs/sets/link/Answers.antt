use Rattle.xs_positions.proofs.Rising.{Contains-both}
use Rattle.xs_positions.proofs.Linking.{link_step}
use Rattle.xs_positions.proofs.sets.link.Goals as goal

pub loop-p-preserved : goal.loop-p-preserved
loop-p-preserved c =
    let bounds = c.requires c.loop-p.p-index 0 c.loop-p-test.true in
    link_step c.args.base c.args.from.now c.args.to.now c.args.rows.now.items c.loop-p.rows.items c.loop-p.p-index c.index_mut.result.now c.extend_from_slice.new.self
    c.loop-p.invariant c.loop-p-test.true bounds.0 bounds.1 c.index_mut.ensures.value
    (λ q. rw c.in_ok-extend_from_slice.ensures.items (Contains-both c.index_mut.result.now.items c.args.to.now q))
