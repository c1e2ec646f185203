use Rattle.std.proofs.Common.{◌≡◌, [], length, replicate, sym, ap, ◌∙◌, arith, rules}
use Rattle.component_references.proofs.VisitLaws.{visit-begins, visit-ends, empty}
use Rattle.component_references.specs.declared.visiting.State.TheVariants.{New}
use Rattle.component_references.proofs.visiting.in_order.Goals as goal

pub loop-v-init : goal.loop-v-init
loop-v-init c =
    let states : c.in_ok-states.states.items ≡ replicate (length c.args.refs.now) New = c.in_ok-states.ensures.items_if_clones_equal (λ y h. h) in
    rw (states, c.new-order.ensures.items) (visit-begins c.args.refs.now c.in_ok-todo.todo.items c.in_ok-todo.ensures)

pub returns : goal.returns
returns c =
    let none : c.loop-v.todo.items ≡ [] = empty c.loop-v.todo.items (omega (arith, c.loop-v.todo.ok.0, c.in_default.ensures.cases.0)) in
    visit-ends c.args.refs.now c.loop-v.states.items c.loop-v.order.items (rw none at c.loop-v.invariant)
