use Rattle.std.proofs.Common.{sym, ◌∙◌}
use Rattle.doc_tree.proofs.Walking.{next_found, next_past}
use Rattle.doc_tree.proofs.tree.DocTree.next_element.Goals as goal

pub returns-then-is_some-clause-tree : goal.returns-then-is_some-clause-tree
returns-then-is_some-clause-tree c = rw (← c.self.view_is) (λ t d z.
    next_found t c.self.inside.links d z c.args.node c.element_from-below.result c.element_from-below.ensures.element (sym c.is_some.ensures ∙ c.if-is_some.true))

pub returns-clause-tree : goal.returns-clause-tree
returns-clause-tree c = rw (← c.self.view_is) (λ t d z.
    c.element_past.ensures.tree t d z
    ∙ next_past t c.self.inside.links d z c.args.node c.element_from-below.result c.element_from-below.ensures.element (sym c.is_some.ensures ∙ c.if-is_some.false))
