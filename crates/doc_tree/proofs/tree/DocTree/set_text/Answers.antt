use Rattle.std.proofs.Common.{◌≡◌, Some, sym, ◌∙◌, subst}
use Rattle.doc_nodes.specs.Nodes.{Nodes}
use Rattle.tree_rows.specs.declared.row.NodeKind.TheVariants as kinds
use Rattle.doc_changes.specs.Held.{kind_at}
use Rattle.doc_changes.proofs.Holding.{holds_chars}
use Rattle.doc_tree.proofs.Counting.{held_count}
use Rattle.doc_tree.proofs.tree.DocTree.set_text.Goals as goal

pub invariant_of-self : goal.invariant_of-self
invariant_of-self c =
    let old = c.self.inside.links in let n = c.args.node in
    let h = holds_chars old n (subst (λ (ns : Nodes). kind_at ns n ≡ Some kinds.Chars) (sym c.self.view_is) c.requires) in
    c.self.invariant ∙ sym (held_count old c.set_text.new.links n _ h.it h.is c.set_text.ensures.change)

pub returns-clause-tree : goal.returns-clause-tree
returns-clause-tree c = rw (← c.self.view_is) c.set_text.ensures.tree
