use Rattle.std.proofs.Common.{◌++◌, sym, ap, ◌∙◌}
use Rattle.doc_tree.proofs.Bound.{own_none, own_some}
use Rattle.doc_tree.proofs.above.bind_node.Goals as goal

pub returns-in-None : goal.returns-in-None
returns-in-None c = ap (λ l. l ++ c.args.around) (sym (own_none c.args.links.now c.args.node c.in-None.ensures.content))

pub returns-in_ok-bind_own-in-Some : goal.returns-in_ok-bind_own-in-Some
returns-in_ok-bind_own-in-Some c =
    c.in_ok-bind_own-in-Some.ensures ∙ ap (λ l. l ++ c.args.around) (own_some c.args.links.now c.args.node c.in-Some.content.now c.in-Some.ensures.content c.bindings_of.result.now c.bindings_of.ensures)
