use Rattle.std.proofs.Common.{◌≡◌, Some, sym, ◌∙◌, subst}
use Rattle.doc_nodes.specs.Nodes.{Nodes}
use Rattle.tree_rows.specs.declared.row.NodeKind.TheVariants as kinds
use Rattle.doc_changes.specs.Held.{kind_at}
use Rattle.doc_changes.proofs.Holding.{holds_element}
use Rattle.doc_tree.proofs.Counting.{held_count}
use Rattle.doc_tree.proofs.tree.DocTree.rename.Goals as goal

pub invariant_of-self : goal.invariant_of-self
invariant_of-self c =
    let old = c.self.inside.links in let n = c.args.node in
    let h = holds_element old n (subst (λ (ns : Nodes). kind_at ns n ≡ Some kinds.Element) (sym c.self.view_is) c.requires) in
    c.self.invariant ∙ sym (held_count old c.rename_node.new.links n _ h.it h.is (c.rename_node.ensures.change h.it h.e h.is h.holds))
