use Rattle.std.proofs.Common.{sym, subst}
use Rattle.leaf_trees.specs.Tree.{fork}
use Rattle.leaf_trees.specs.Side.{fork_on}
use Rattle.leaf_trees.specs.Change.{Becomes}
use Rattle.leaf_trees.proofs.Turns.{flip_sides, footprint}
use Rattle.leaf_trees.proofs.link.link_on.Goals as goal

pub returns-in-Right : goal.returns-in-Right
returns-in-Right c = λ t u s.
    let ns = c.args.nodes.now in let ms = c.link-in-Right.new.nodes in let i = c.args.i in
    subst (λ x. Becomes ns ms i (fork i t u) (fork_on x i t u)) (sym c.in-Right.is)
    (footprint ns ms i i t u (fork i u t) (c.link-in-Right.ensures.becomes u t (flip_sides ns i c.args.here c.args.there t u s)))
