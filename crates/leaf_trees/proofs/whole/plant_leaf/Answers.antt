use Rattle.leaf_trees.specs.Tree.{item_of}
use Rattle.leaf_trees.proofs.Changed.{planted}
use Rattle.leaf_trees.proofs.whole.plant_leaf.Goals as goal

pub returns : goal.returns
returns c = planted c.args.nodes.now c.write_leaf.new.nodes c.set_above.new.nodes c.args.list (item_of c.args.slot c.args.flags) c.write_leaf.ensures c.set_above.ensures
