use Rattle.std.proofs.Common.{refl, ap, ◌∙◌}
use Rattle.std.specs.Prelude.{slice_get}
use Rattle.doc_nodes.specs.Nodes.{node}
use Rattle.doc_tree.proofs.Answering.{children_are, child_is}
use Rattle.doc_tree.proofs.Walking.{if_child}
use Rattle.doc_tree.proofs.tree.DocTree.child_at.Goals as goal

pub returns-clause-parent : goal.returns-clause-parent
returns-clause-parent c = rw (← c.self.view_is) (if_child c.self.inside.links c.args.node c.args.place c.child_at.ensures.sound c.child_at.result c.child_at.ensures.child)

pub returns-clause-tree : goal.returns-clause-tree
returns-clause-tree c = rw (← c.self.view_is) (λ t d z.
    let ns = c.self.inside.links in let n = c.args.node in
    c.child_at.ensures.child ∙ ap (λ l. slice_get l c.args.place) (children_are t ns d z n (node ns n) refl) ∙ child_is t ns d z n c.args.place)
