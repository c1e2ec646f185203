use Rattle.std.proofs.Common.{sym, ◌∙◌}
use Rattle.doc_nodes.specs.Nodes.{children_by, node}
use Rattle.doc_tree.proofs.Alone.{one-alone}
use Rattle.doc_tree.proofs.joining.only_child.Goals as goal

pub returns-then-child_count-eq1 : goal.returns-then-child_count-eq1
returns-then-child_count-eq1 c =
    let children = children_by (node c.args.links.now c.args.node) in
    one-alone children c.child_at.result (sym c.child_count.ensures.count ∙ c.if-child_count-eq1.true) c.child_at.ensures.child
