use Rattle.model_lists.proofs.Entries.{counted}
use Rattle.model_lists.proofs.MemberKeeping.{over-members, member-live, member-place}
use Rattle.model_lists.proofs.Leading.{members-upto}
use Rattle.model_lists.proofs.members.member_upto.Goals as goal

pub members_of-requires : goal.members_of-requires
members_of-requires g c =
    let q = c.requires in
    over-members c.args.lists.now c.args.list c.args.automaton.now q.0 q.1

pub upto-state-requires-clause-live : goal.upto-state-requires-clause-live
upto-state-requires-clause-live g c =
    let q = c.requires in
    let l = member-live c.args.lists.now c.args.list c.args.automaton.now q.0 q.1 in
    (l.0, l.1)

pub upto-state-requires-clause-place : goal.upto-state-requires-clause-place
upto-state-requires-clause-place g c =
    let q = c.requires in
    member-place c.args.lists.now c.args.list c.args.automaton.now q.0 q.1 c.args.place q.2

pub returns-clause-state : goal.returns-clause-state
returns-clause-state g c =
    λ symbols h. members-upto c.args.automaton.now c.members_of.result.now c.members_of.ensures c.args.lists.now c.args.list c.all_start.result c.all_start.ensures symbols h c.args.place c.upto-state.result c.upto-state.ensures.value

pub returns-clause-steps : goal.returns-clause-steps
returns-clause-steps g c =
    λ symbols h.
    let l = member-live c.args.lists.now c.args.list c.args.automaton.now symbols h in
    counted c.args.steps.now c.upto-state.new.steps 8 1 _ _ l.2 (c.upto-state.ensures.steps l.0 l.1)
