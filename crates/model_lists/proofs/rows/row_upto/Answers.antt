use Rattle.model_lists.proofs.Entries.{counted}
use Rattle.model_lists.proofs.RowKeeping.{over-states, row-live, row-place}
use Rattle.model_lists.proofs.Leading.{row-state, rows-upto}
use Rattle.model_lists.proofs.rows.row_upto.Goals as goal

pub states_of-requires : goal.states_of-requires
states_of-requires g c =
    let q = c.requires in
    over-states c.args.lists.now c.args.list c.args.automaton.now q.0 q.1

pub upto-state-requires-clause-live : goal.upto-state-requires-clause-live
upto-state-requires-clause-live g c =
    let q = c.requires in
    let l = row-live c.args.lists.now c.args.list c.args.automaton.now q.0 q.1 in
    (l.0, l.1)

pub upto-state-requires-clause-place : goal.upto-state-requires-clause-place
upto-state-requires-clause-place g c =
    let q = c.requires in
    row-place c.args.lists.now c.args.list c.args.automaton.now q.0 q.1 c.args.place q.2

pub upto-state-requires-clause-state : goal.upto-state-requires-clause-state
upto-state-requires-clause-state g c =
    let q = c.requires in
    row-state c.args.automaton.now c.states_of.result.now c.states_of.ensures c.args.lists.now c.args.list q.0 q.1 c.start.result c.start.ensures.below

pub returns-clause-state : goal.returns-clause-state
returns-clause-state g c =
    λ symbols h. rows-upto c.args.automaton.now c.states_of.result.now c.states_of.ensures c.args.lists.now c.args.list c.start.result c.start.ensures.state symbols h c.args.place c.upto-state.result c.upto-state.ensures.value

pub returns-clause-steps : goal.returns-clause-steps
returns-clause-steps g c =
    λ symbols h.
    let l = row-live c.args.lists.now c.args.list c.args.automaton.now symbols h in
    counted c.args.steps.now c.upto-state.new.steps 8 1 _ _ l.2 (c.upto-state.ensures.steps l.0 l.1)
