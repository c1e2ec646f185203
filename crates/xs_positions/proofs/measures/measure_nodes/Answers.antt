-- The node's parts come before it, and the measures so far are those of the trees so far.
use Rattle.xs_positions.proofs.Growing.{parts_measured, nodes_step}
use Rattle.xs_positions.proofs.measures.measure_nodes.Goals as goal

pub measure_node-measure-requires : goal.measure_node-measure-requires
measure_node-measure-requires c =
    parts_measured c.args.nodes.now c.loop-node.measures.items c.deref.result.now c.loop-node.node-index c.node-item.result
    c.requires c.loop-node.invariant c.deref.ensures.value c.loop-node-test.true c.node-item.is

pub loop-node-preserved : goal.loop-node-preserved
loop-node-preserved c =
    nodes_step c.args.nodes.now c.loop-node.measures.items c.deref.result.now c.loop-node.node-index c.node-item.result
    c.push.new.self.items c.measure_node-measure.result c.loop-node.invariant c.deref.ensures.value c.loop-node-test.true c.node-item.is
    c.measure_node-measure.ensures c.in_ok-push.ensures.items
