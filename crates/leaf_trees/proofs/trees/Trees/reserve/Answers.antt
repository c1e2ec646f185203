use Rattle.leaf_trees.proofs.Changed.{grows_keeps}
use Rattle.leaf_trees.proofs.trees.Trees.reserve.Goals as goal

pub returns-in_err-grow-clause-others : goal.returns-in_err-grow-clause-others
returns-in_err-grow-clause-others c = λ p b u U.
    grows_keeps c.loop-self.self.nodes c.grow.new.self.nodes c.grow.ensures.grows p b u (grows_keeps c.args.self.now.nodes c.loop-self.self.nodes c.loop-self.invariant.grows p b u U)

pub returns-clause-others : goal.returns-clause-others
returns-clause-others c = grows_keeps c.args.self.now.nodes c.loop-self.self.nodes c.loop-self.invariant.grows
