use Rattle.std.proofs.Common.{sym, subst}
use Rattle.tree_rows.specs.Rows.{siblings}
use Rattle.plain_tree.specs.Behind.{IsNode}
use Rattle.plain_tree.specs.Nodes.{node_at}
use Rattle.plain_tree.proofs.Finding.{node_found}
use Rattle.plain_tree.proofs.tree.Tree.find.Goals as goal

pub returns : goal.returns
returns c =
    let rows = c.self.inside.rows.items in
    rw (← c.self.view_is) (subst (λ f. IsNode f (node_at c.args.node (siblings rows 1))) (sym (rw c.deref.ensures.value at c.find_row.ensures)) (node_found c.args.node rows c.self.invariant.sound.whole))
