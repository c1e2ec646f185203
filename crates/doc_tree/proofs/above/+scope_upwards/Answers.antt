use Rattle.std.proofs.Common.{◌≡◌, IfOk, sym, ◌∙◌, subst, arith}
use Rattle.doc_tree.proofs.Bound.{scope_outside, scope_around}
use Rattle.doc_tree.proofs.Walking.{above_depth}
use Rattle.doc_tree.proofs.above.+scope_upwards.Goals as goal

pub scope_upwards-requires : goal.scope_upwards-requires
scope_upwards-requires t c =
    let e = above_depth c.args.links.now c.args.node c.in-Some.parent c.parent.ensures.sound (sym c.parent.ensures.parent ∙ c.in-Some.is) in
    (omega (arith, c.decreases, e), tt)

pub returns-in_ok-outside-in-None : goal.returns-in_ok-outside-in-None
returns-in_ok-outside-in-None t c =
    subst (λ l. IfOk c.bind_node.result (λ scope. scope ≡ l))
    (scope_outside c.args.links.now c.args.node c.in_ok-outside-in-None.outside (sym c.in-None.is ∙ c.parent.ensures.parent) c.in_ok-outside-in-None.ensures) c.bind_node.ensures

pub returns-in_ok-around-in-Some : goal.returns-in_ok-around-in-Some
returns-in_ok-around-in-Some t c =
    subst (λ l. IfOk c.bind_node-in-Some.result (λ scope. scope ≡ l))
    (scope_around c.args.links.now c.args.node c.in-Some.parent c.in_ok-around-in-Some.around c.parent.ensures.sound (sym c.in-Some.is ∙ c.parent.ensures.parent) c.in_ok-around-in-Some.ensures) c.bind_node-in-Some.ensures
