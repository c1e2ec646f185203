use Rattle.std.proofs.Common.{ap, ◌∙◌}
use Rattle.std.proofs.lemmas.List.{take_all}
use Rattle.xs_positions.specs.Nodes.{trees_of}
use Rattle.xs_positions.proofs.Growing.{clone_below, clone_more}
use Rattle.xs_positions.proofs.expr.Expr.try_clone.Goals as goal

pub add-requires : goal.add-requires
add-requires c =
    clone_below c.nodes-nodes.result.now c.loop-node.node-index c.node-item.result c.in_ok-node.node c.loop-node.copy c.loop-node-test.true c.node-item.is c.loop-node.invariant
    c.nodes-nodes.ensures.ordered c.in_ok-node.ensures.below

pub loop-node-preserved : goal.loop-node-preserved
loop-node-preserved c =
    clone_more c.nodes-nodes.result.now c.loop-node.node-index c.node-item.result c.in_ok-node.node c.loop-node.copy c.loop-node-test.true c.node-item.is c.loop-node.invariant
    c.add.new.self (c.in_ok-node.ensures.tree c.loop-node.copy) c.in_ok-add.ensures.ok

pub returns : goal.returns
returns c = c.loop-node.invariant ∙ (ap trees_of (take_all c.loop-node.node-index c.nodes-nodes.result.now c.loop-node-test.false) ∙ c.nodes-nodes.ensures.trees)
