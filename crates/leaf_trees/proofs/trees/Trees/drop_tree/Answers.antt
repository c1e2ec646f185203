use Rattle.leaf_trees.proofs.Held.{has_top}
use Rattle.leaf_trees.proofs.Parts.{top_within}
use Rattle.leaf_trees.proofs.Forest.{has_taken}
use Rattle.leaf_trees.proofs.Freed.{freed_others}
use Rattle.leaf_trees.proofs.trees.Trees.drop_tree.Goals as goal

pub free_under-requires : goal.free_under-requires
free_under-requires c =
    let q = c.requires in let ns = c.args.self.now.nodes in
    (q.1, q.2.has, record { within = top_within ns c.args.top q.1 q.2.has; taken = has_taken ns q.0 c.args.top q.1 q.2 c.args.top (has_top q.1 c.args.top q.2.has.top_is) })

pub returns-clause-others : goal.returns-clause-others
returns-clause-others c = λ list t T. freed_others c.args.self.now c.free_under.new.self list c.args.top t T (c.free_under.ensures t T.has)

pub returns-clause-spare : goal.returns-clause-spare
returns-clause-spare c = λ list t T. (c.free_under.ensures t T.has).spare

pub returns-clause-len : goal.returns-clause-len
returns-clause-len c = let q = c.requires in (c.free_under.ensures q.1 q.2.has).len
