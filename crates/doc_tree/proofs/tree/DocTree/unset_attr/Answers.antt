use Rattle.std.proofs.Common.{◌≡◌, true, sym, ◌∙◌, subst}
use Rattle.doc_nodes.specs.Nodes.{Nodes}
use Rattle.doc_changes.specs.Held.{attributes_at, has_number}
use Rattle.doc_changes.proofs.Attributed.{holds_attribute}
use Rattle.doc_tree.proofs.Counting.{held_count}
use Rattle.doc_tree.proofs.tree.DocTree.unset_attr.Goals as goal

pub invariant_of-self : goal.invariant_of-self
invariant_of-self c =
    let old = c.self.inside.links in let n = c.args.node in
    let h = holds_attribute old n c.args.name (subst (λ (ns : Nodes). has_number c.args.name (attributes_at ns n) ≡ true) (sym c.self.view_is) c.requires) in
    c.self.invariant ∙ sym (held_count old c.unset_attribute.new.links n _ h.it h.is (c.unset_attribute.ensures.change h.it h.e h.is h.holds))

pub returns-clause-tree : goal.returns-clause-tree
returns-clause-tree c = rw (← c.self.view_is) c.unset_attribute.ensures.tree
