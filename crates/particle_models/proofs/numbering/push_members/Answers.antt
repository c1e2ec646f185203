use Rattle.std.proofs.Common.{arith}
use Rattle.particle_models.proofs.Walking.{push_within, push_outcome, push_weight}
use Rattle.particle_models.proofs.numbering.push_members.Goals as goal

pub loop-left-preserved : goal.loop-left-preserved
loop-left-preserved c =
    let h = c.loop-left.invariant.here in record {
      here = omega arith;
      within = λ nodes b ts. push_within c.args.members.now c.loop-left.left c.args.todo.now.items c.loop-left.todo.items _ c.loop-left-test.true h c.in_ok-push.ensures.items nodes b (c.loop-left.invariant.within nodes b ts);
      outcome = λ nodes. push_outcome c.args.members.now c.loop-left.left c.args.todo.now.items c.loop-left.todo.items _ c.loop-left-test.true h c.in_ok-push.ensures.items nodes (c.loop-left.invariant.outcome nodes);
      weight = λ nodes. push_weight c.args.members.now c.loop-left.left c.args.todo.now.items c.loop-left.todo.items _ c.loop-left-test.true h c.in_ok-push.ensures.items nodes (c.loop-left.invariant.weight nodes);
    }
