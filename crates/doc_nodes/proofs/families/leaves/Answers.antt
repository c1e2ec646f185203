use Rattle.std.proofs.Common.{◌∙◌}
use Rattle.doc_nodes.specs.Families.{leaf_of}
use Rattle.doc_nodes.proofs.Hanging.{image_next, image_all}
use Rattle.doc_nodes.proofs.families.leaves.Goals as goal

pub loop-child-preserved : goal.loop-child-preserved
loop-child-preserved c =
    c.in_ok-push.ensures.items ∙ image_next leaf_of c.args.children.now c.loop-child.child-index c.child-item.result c.loop-child.made.items c.leaf.result c.loop-child-test.true c.child-item.is c.loop-child.invariant c.leaf.ensures

pub returns : goal.returns
returns c = image_all leaf_of c.args.children.now c.loop-child.child-index c.loop-child.made.items c.loop-child.invariant c.loop-child-test.false
