use Rattle.std.proofs.Common.{◌∙◌}
use Rattle.particle_models.proofs.Asking.{parts_there, asks_more}
use Rattle.particle_models.proofs.asked.asked_of.Goals as goal

pub ask_below-requires : goal.ask_below-requires
ask_below-requires c =
    parts_there c.args.nodes.now c.loop-node.node-index c.node-item.result c.loop-node-test.true c.node-item.is _ c.loop-node.invariant.count c.requires.ordered

pub loop-node-preserved : goal.loop-node-preserved
loop-node-preserved c = record {
  root = c.ask_below.ensures.kept c.args.root c.loop-node.invariant.root;
  asks = asks_more c.args.nodes.now c.loop-node.node-index c.node-item.result c.loop-node-test.true c.node-item.is c.loop-node.asked.items c.ask_below.new.asked.items
      c.ask_below.ensures.kept c.ask_below.ensures.asks c.loop-node.invariant.asks;
  count = c.ask_below.ensures.count ∙ c.loop-node.invariant.count;
}
