use Rattle.std.proofs.Common.{sym, ◌∙◌, arith}
use Rattle.model_lists.proofs.Entries.{counted}
use Rattle.model_lists.proofs.RowKeeping.{over-states, row-live, row-many}
use Rattle.model_lists.proofs.Leading.{row-state, rows-first, rows-none, rows-end}
use Rattle.model_lists.proofs.rows.stuck_row.Goals as goal

pub states_of-states-requires : goal.states_of-states-requires
states_of-states-requires g c =
    let q = c.requires in
    over-states c.args.lists.now c.args.list c.args.automaton.now q.0 q.1

pub descend-requires-clause-live : goal.descend-requires-clause-live
descend-requires-clause-live g c =
    let q = c.requires in
    let l = row-live c.args.lists.now c.args.list c.args.automaton.now q.0 q.1 in
    (l.0, l.1)

pub descend-requires-clause-state : goal.descend-requires-clause-state
descend-requires-clause-state g c =
    let q = c.requires in
    row-state c.args.automaton.now c.states_of-states.result.now c.states_of-states.ensures c.args.lists.now c.args.list q.0 q.1 c.start-start.result c.start-start.ensures.below

pub returns-in-Some-clause-stuck : goal.returns-in-Some-clause-stuck
returns-in-Some-clause-stuck g c =
    λ symbols h. rows-first c.args.automaton.now c.states_of-states.result.now c.states_of-states.ensures c.args.lists.now c.args.list c.start-start.result c.start-start.ensures.state symbols h c.in-Some.place c.in-Some.ensures.place

pub returns-in-Some-clause-steps : goal.returns-in-Some-clause-steps
returns-in-Some-clause-steps g c =
    λ symbols h.
    let l = row-live c.args.lists.now c.args.list c.args.automaton.now symbols h in
    let d = counted c.args.steps.now c.descend.new.steps 8 1 _ _ l.2 (c.descend.ensures.steps l.0 l.1) in
    omega arith

pub whole-end-requires-clause-live : goal.whole-end-requires-clause-live
whole-end-requires-clause-live g c =
    let q = c.requires in
    let l = row-live c.args.lists.now c.args.list c.args.automaton.now q.0 q.1 in
    (l.0, l.1)

pub whole-end-requires-clause-state : goal.whole-end-requires-clause-state
whole-end-requires-clause-state g c =
    let q = c.requires in
    row-state c.args.automaton.now c.states_of-states.result.now c.states_of-states.ensures c.args.lists.now c.args.list q.0 q.1 c.start-start.result c.start-start.ensures.below

pub returns-then-accepting-clause-stuck : goal.returns-then-accepting-clause-stuck
returns-then-accepting-clause-stuck g c =
    λ symbols h. rows-none c.args.automaton.now c.states_of-states.result.now c.states_of-states.ensures c.args.lists.now c.args.list c.start-start.result c.start-start.ensures.state symbols h c.in_default.ensures.place c.whole-end.result c.whole-end.ensures.value (sym c.accepting.ensures ∙ c.if-accepting.true)

pub returns-else-accepting-clause-stuck : goal.returns-else-accepting-clause-stuck
returns-else-accepting-clause-stuck g c =
    λ symbols h.
    let q = c.requires in
    let l = row-live c.args.lists.now c.args.list c.args.automaton.now q.0 q.1 in
    let many = row-many c.args.lists.now c.args.list c.args.automaton.now symbols h l.0 l.1 in
    rows-end c.args.automaton.now c.states_of-states.result.now c.states_of-states.ensures c.args.lists.now c.args.list c.start-start.result c.start-start.ensures.state symbols h c.in_default.ensures.place c.whole-end.result c.whole-end.ensures.value c.args.count (q.2 ∙ (sym l.2 ∙ many)) (sym c.accepting.ensures ∙ c.if-accepting.false)

pub returns-then-accepting-clause-steps : goal.returns-then-accepting-clause-steps
returns-then-accepting-clause-steps g c =
    λ symbols h.
    let l = row-live c.args.lists.now c.args.list c.args.automaton.now symbols h in
    let d = counted c.args.steps.now c.descend.new.steps 8 1 _ _ l.2 (c.descend.ensures.steps l.0 l.1) in
    let w = c.whole-end.ensures.steps in
    omega arith

pub returns-else-accepting-clause-steps : goal.returns-else-accepting-clause-steps
returns-else-accepting-clause-steps g c =
    λ symbols h.
    let l = row-live c.args.lists.now c.args.list c.args.automaton.now symbols h in
    let d = counted c.args.steps.now c.descend.new.steps 8 1 _ _ l.2 (c.descend.ensures.steps l.0 l.1) in
    let w = c.whole-end.ensures.steps in
    omega arith
