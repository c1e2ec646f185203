use Rattle.std.proofs.Common.{◌≡◌, Some, map, sym, ap, ◌∙◌, subst}
use Rattle.doc_nodes.specs.Nodes.{Nodes}
use Rattle.tag_names.specs.Scopes.{binding_in}
use Rattle.tree_edits.specs.Edits.{scope_in}
use Rattle.tree_rows.specs.declared.row.NodeKind.TheVariants as kinds
use Rattle.doc_changes.specs.Held.{kind_at}
use Rattle.doc_changes.proofs.Holding.{holds_element}
use Rattle.doc_tree.proofs.Walking.{first_bound}
use Rattle.doc_tree.proofs.tree.DocTree.scope_of.Goals as goal

pub returns-clause-tree : goal.returns-clause-tree
returns-clause-tree c = rw (← c.self.view_is) (λ d z.
    let ns = c.self.inside.links in let n = c.args.node in let t = c.args.names.now in
    let h = holds_element ns n (subst (λ (old : Nodes). kind_at old n ≡ Some kinds.Element) (sym c.self.view_is) c.requires) in
    c.in_ok-bind_above.ensures.tree t d h.it z h.is ∙ ap (λ x. scope_in n x d.forest) (ap (map (binding_in t)) c.in_ok-scope.ensures ∙ first_bound t z.table))
