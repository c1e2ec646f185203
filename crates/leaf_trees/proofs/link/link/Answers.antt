use Rattle.leaf_trees.proofs.Held.{two, left_fits, right_fits, counts_fit, linked}
use Rattle.leaf_trees.proofs.link.link.Goals as goal

pub write_link-requires-clause-two : goal.write_link-requires-clause-two
write_link-requires-clause-two c = let q = c.requires in two c.args.nodes.now c.args.i c.args.left c.args.right q.0 q.1 q.2

pub write_link-requires-clause-left_height : goal.write_link-requires-clause-left_height
write_link-requires-clause-left_height c = let q = c.requires in left_fits c.args.nodes.now c.args.i c.args.left c.args.right q.0 q.1 q.2

pub write_link-requires-clause-right_height : goal.write_link-requires-clause-right_height
write_link-requires-clause-right_height c = let q = c.requires in right_fits c.args.nodes.now c.args.i c.args.left c.args.right q.0 q.1 q.2

pub write_link-requires-clause-counts : goal.write_link-requires-clause-counts
write_link-requires-clause-counts c = let q = c.requires in counts_fit c.args.nodes.now c.args.i c.args.left c.args.right q.0 q.1 q.2

pub returns-clause-becomes : goal.returns-clause-becomes
returns-clause-becomes c = λ lt rt s. linked c.args.nodes.now c.args.i c.args.left c.args.right lt rt s c.write_link.new.nodes c.write_link.ensures
