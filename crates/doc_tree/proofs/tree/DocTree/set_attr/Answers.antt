use Rattle.std.proofs.Common.{◌≡◌, Some, sym, ◌∙◌, subst}
use Rattle.doc_nodes.specs.Nodes.{Nodes}
use Rattle.tree_rows.specs.declared.row.NodeKind.TheVariants as kinds
use Rattle.doc_changes.specs.Held.{kind_at}
use Rattle.doc_changes.proofs.Holding.{holds_element}
use Rattle.doc_tree.proofs.Counting.{set_count}
use Rattle.doc_tree.proofs.tree.DocTree.set_attr.Goals as goal

pub invariant_of-self : goal.invariant_of-self
invariant_of-self c =
    let old = c.self.inside.links in let n = c.args.node in
    let h = holds_element old n (subst (λ (ns : Nodes). kind_at ns n ≡ Some kinds.Element) (sym c.self.view_is) c.requires.element) in
    c.self.invariant ∙ sym (set_count old c.set_attribute.new.links n c.args.name c.args.value h c.set_attribute.result c.set_attribute.ensures.change c.set_attribute.ensures.err)
