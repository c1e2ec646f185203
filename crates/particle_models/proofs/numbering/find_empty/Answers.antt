use Rattle.std.proofs.Common.{◌∙◌, ◌+◌, ap, length}
use Rattle.std.proofs.lemmas.List.{length_push}
use Rattle.particle_models.proofs.Flags.{flags_more}
use Rattle.particle_models.proofs.numbering.find_empty.Goals as goal

pub loop-node-preserved : goal.loop-node-preserved
loop-node-preserved c = record {
  count = ap length c.in_ok-push.ensures.items ∙ (length_push c.loop-node.flags.items c.is_empty-flag.result ∙ ap (λ k. k + 1) c.loop-node.invariant.count);
  flags = flags_more c.args.nodes.now c.loop-node.node-index c.node-item.result c.loop-node.flags.items c.push.new.self.items c.is_empty-flag.result c.loop-node-test.true c.node-item.is
      c.loop-node.invariant.flags (rw c.deref.ensures.value at c.is_empty-flag.ensures) c.in_ok-push.ensures.items;
}
