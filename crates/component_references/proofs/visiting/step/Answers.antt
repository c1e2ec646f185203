use Rattle.std.proofs.Common.{◌≡◌, ◌++◌, ◌∷◌, [], true, sym, ap, ◌∙◌, map}
use Rattle.std.proofs.lemmas.Bool.{true≢false}
use Rattle.component_references.specs.inside.Visits.{waiting}
use Rattle.component_references.proofs.VisitLaws.{part-there, last-there, steps-exit, steps-skip, steps-enter, circle}
use Rattle.component_references.proofs.visiting.step.Goals as goal

pub returns-then-v : goal.returns-then-v
returns-then-v c = record { circle = λ e. absurd (true≢false e); steps = λ _. rw c.in_ok-push.ensures.items (steps-exit c.args.refs.now c.args.states.now c.args.order.now.items c.args.todo.now.items c.args.v c.requires.visit c.if-v.true) }

pub bounds : goal.bounds
bounds c = part-there c.args.refs.now c.args.states.now c.args.order.now.items c.args.todo.now.items c.args.v c.requires.visit

pub bounds-states-v-in-New : goal.bounds-states-v-in-New
bounds-states-v-in-New c = part-there c.args.refs.now c.args.states.now c.args.order.now.items c.args.todo.now.items c.args.v c.requires.visit

pub refs_at-requires : goal.refs_at-requires
refs_at-requires c = last-there c.args.refs.now c.args.states.now c.args.order.now.items c.args.todo.now.items c.args.v c.requires.visit

pub returns-in-Done : goal.returns-in-Done
returns-in-Done c = record { circle = λ e. absurd (true≢false e); steps = λ _. steps-skip c.args.refs.now c.args.states.now c.args.order.now.items c.args.todo.now.items c.args.v c.requires.visit c.if-v.false c.in-Done.is }

pub returns-in_ok-wait_for-in-New : goal.returns-in_ok-wait_for-in-New
returns-in_ok-wait_for-in-New c =
    let items = c.in_ok-wait_for-in-New.ensures ∙ ap (λ l. l ++ map waiting c.refs_at.result.now) c.in_ok-push-in-New.ensures.items
    ∙ ap (λ l. (c.args.todo.now.items ++ record { part = c.args.v.part; entered = true } ∷ []) ++ map waiting l) c.refs_at.ensures in
    record { circle = λ e. absurd (true≢false e); steps = λ _. rw items (steps-enter c.args.refs.now c.args.states.now c.args.order.now.items c.args.todo.now.items c.args.v c.requires.visit c.requires.within c.in-New.is) }

pub returns-in-Open : goal.returns-in-Open
returns-in-Open c = record { circle = λ _. circle c.args.refs.now c.args.states.now c.args.order.now.items c.args.todo.now.items c.args.v c.requires.visit c.if-v.false c.in-Open.is; steps = λ e. absurd (true≢false (sym e)) }
