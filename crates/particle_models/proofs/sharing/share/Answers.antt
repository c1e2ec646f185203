use Rattle.std.proofs.Common.{◌∙◌, ◌+◌, ap, length}
use Rattle.std.proofs.lemmas.List.{length_push}
use Rattle.particle_models.specs.Sharing.{inhabited_of}
use Rattle.particle_models.proofs.Shared.{shared_more, ids_more}
use Rattle.particle_models.proofs.sharing.share.Goals as goal

pub loop-node-preserved : goal.loop-node-preserved
loop-node-preserved c = record {
  count = ap length c.in_ok-push.ensures.items ∙ (length_push c.loop-node.ids.items c.in_ok-id.id ∙ ap (λ k. k + 1) c.loop-node.invariant.count);
  ids = ids_more c.loop-node.expr c.share_node.new.expr c.loop-node.ids.items c.push.new.self.items c.in_ok-id.id c.loop-node.invariant.ids c.in_ok-id.ensures.kept c.in_ok-id.ensures.id c.in_ok-push.ensures.items;
  trees = shared_more (inhabited_of c.args.inhabited.now) c.args.nodes.now c.loop-node.node-index c.node-item.result c.loop-node.expr c.share_node.new.expr c.loop-node.ids.items c.push.new.self.items c.in_ok-id.id
      c.loop-node-test.true c.node-item.is c.loop-node.invariant.trees c.loop-node.invariant.ids c.in_ok-id.ensures.kept (rw c.deref.ensures.value at c.in_ok-id.ensures.tree) c.in_ok-push.ensures.items;
}
