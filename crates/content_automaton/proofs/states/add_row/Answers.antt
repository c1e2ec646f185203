use Rattle.std.proofs.Common.{◌∙◌, arith}
use Rattle.content_automaton.specs.Built.{AreTooMany}
use Rattle.content_automaton.proofs.Numbering.{where_both}
use Rattle.content_automaton.proofs.Building.{coming_fits, next_fits}
use Rattle.content_automaton.proofs.Turning.{left_here, turns_begun, turns_too_many, turns_more}
use Rattle.content_automaton.proofs.states.add_row.Goals as goal

pub coming-requires-clause-set : goal.coming-requires-clause-set
coming-requires-clause-set c =
    coming_fits _ _ c.args.symbols _ c.requires.within c.args.states.now.sets.keys c.args.state c.index-as_slice-state.result c.deref.result.now c.requires.states c.requires.state
    (rw c.as_slice.ensures.keys at c.index-as_slice-state.is) c.deref.ensures.value

pub sort_out-requires-clause-set : goal.sort_out-requires-clause-set
sort_out-requires-clause-set c =
    next_fits _ _ c.args.symbols _ c.requires.within c.args.states.now.sets.keys c.args.state c.index-as_slice-state.result c.deref.result.now c.in_ok-next.next.items c.deref-2.result.now c.requires.states c.requires.state
    (rw c.as_slice.ensures.keys at c.index-as_slice-state.is) c.deref.ensures.value c.in_ok-next.ensures.members c.deref-2.ensures.value

pub loop-set-init : goal.loop-set-init
loop-set-init c =
    turns_begun _ _ c.args.symbols _ c.requires.within c.args.states.now.sets.keys c.args.cells.now.items c.args.state c.index-as_slice-state.result c.deref.result.now c.in_ok-next.next.items c.deref-2.result.now
    c.sort_out.new.sets.items c.as_slice-all.result.now c.requires.states c.requires.few c.requires.state c.requires.steps c.requires.cells
    (rw c.as_slice.ensures.keys at c.index-as_slice-state.is) c.deref.ensures.value c.in_ok-next.ensures.members c.deref-2.ensures.value
    (c.in_ok-sort_out.ensures.count ∙ c.requires.sets) (λ n l. c.in_ok-sort_out.ensures.sets n (let e = c.requires.sets in omega arith)) c.as_slice-all.ensures.value

pub returns-in-Err-clause-too_many : goal.returns-in-Err-clause-too_many
returns-in-Err-clause-too_many c =
    let here = left_here c.as_slice-all.result.now c.loop-set.set-index c.set-item.result c.loop-set-test.true c.set-item.is in
    where_both _ _ (AreTooMany c.args.form.now.table c.args.accepted.now c.args.symbols) c.in-Err.stop c.in-Err.ensures.too_many c.in-Err.ensures.full
    (turns_too_many _ _ _ _ c.requires.within _ _ _ _ _ _ c.loop-set.invariant c.set-item.result _ here c.in_ok-next.ensures.rises)

pub loop-set-preserved : goal.loop-set-preserved
loop-set-preserved c =
    let here = left_here c.as_slice-all.result.now c.loop-set.set-index c.set-item.result c.loop-set-test.true c.set-item.is in
    turns_more _ _ _ _ c.requires.within _ _ _ _ _ _ c.loop-set.invariant c.set-item.result _ here c.in_ok-next.ensures.rises _ c.in-Ok.to c.in-Ok.ensures.ok _ c.in_ok-push-in-Ok.ensures.items
