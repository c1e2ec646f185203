use Rattle.std.proofs.Common.{sym, ◌∙◌, arith}
use Rattle.model_lists.proofs.Entries.{counted}
use Rattle.model_lists.proofs.MemberKeeping.{over-members, member-live, member-many}
use Rattle.model_lists.proofs.Leading.{members-first, members-none, members-end}
use Rattle.model_lists.proofs.members.stuck_member.Goals as goal

pub members_of-members-requires : goal.members_of-members-requires
members_of-members-requires g c =
    let q = c.requires in
    over-members c.args.lists.now c.args.list c.args.automaton.now q.0 q.1

pub descend-requires-clause-live : goal.descend-requires-clause-live
descend-requires-clause-live g c =
    let q = c.requires in
    let l = member-live c.args.lists.now c.args.list c.args.automaton.now q.0 q.1 in
    (l.0, l.1)

pub returns-in-Some-clause-stuck : goal.returns-in-Some-clause-stuck
returns-in-Some-clause-stuck g c =
    λ symbols h. members-first c.args.automaton.now c.members_of-members.result.now c.members_of-members.ensures c.args.lists.now c.args.list c.all_start-start.result c.all_start-start.ensures symbols h c.in-Some.place c.in-Some.ensures.place

pub returns-in-Some-clause-steps : goal.returns-in-Some-clause-steps
returns-in-Some-clause-steps g c =
    λ symbols h.
    let l = member-live c.args.lists.now c.args.list c.args.automaton.now symbols h in
    let d = counted c.args.steps.now c.descend.new.steps 8 1 _ _ l.2 (c.descend.ensures.steps l.0 l.1) in
    omega arith

pub whole-end-requires-clause-live : goal.whole-end-requires-clause-live
whole-end-requires-clause-live g c =
    let q = c.requires in
    let l = member-live c.args.lists.now c.args.list c.args.automaton.now q.0 q.1 in
    (l.0, l.1)

pub returns-then-all_accepting-clause-stuck : goal.returns-then-all_accepting-clause-stuck
returns-then-all_accepting-clause-stuck g c =
    λ symbols h. members-none c.args.automaton.now c.members_of-members.result.now c.members_of-members.ensures c.args.lists.now c.args.list c.all_start-start.result c.all_start-start.ensures symbols h c.in_default.ensures.place c.whole-end.result c.whole-end.ensures.value (sym c.all_accepting.ensures ∙ c.if-all_accepting.true)

pub returns-else-all_accepting-clause-stuck : goal.returns-else-all_accepting-clause-stuck
returns-else-all_accepting-clause-stuck g c =
    λ symbols h.
    let q = c.requires in
    let l = member-live c.args.lists.now c.args.list c.args.automaton.now q.0 q.1 in
    let many = member-many c.args.lists.now c.args.list c.args.automaton.now symbols h l.0 l.1 in
    members-end c.args.automaton.now c.members_of-members.result.now c.members_of-members.ensures c.args.lists.now c.args.list c.all_start-start.result c.all_start-start.ensures symbols h c.in_default.ensures.place c.whole-end.result c.whole-end.ensures.value c.args.count (q.2 ∙ (sym l.2 ∙ many)) (sym c.all_accepting.ensures ∙ c.if-all_accepting.false)

pub returns-then-all_accepting-clause-steps : goal.returns-then-all_accepting-clause-steps
returns-then-all_accepting-clause-steps g c =
    λ symbols h.
    let l = member-live c.args.lists.now c.args.list c.args.automaton.now symbols h in
    let d = counted c.args.steps.now c.descend.new.steps 8 1 _ _ l.2 (c.descend.ensures.steps l.0 l.1) in
    let w = c.whole-end.ensures.steps in
    omega arith

pub returns-else-all_accepting-clause-steps : goal.returns-else-all_accepting-clause-steps
returns-else-all_accepting-clause-steps g c =
    λ symbols h.
    let l = member-live c.args.lists.now c.args.list c.args.automaton.now symbols h in
    let d = counted c.args.steps.now c.descend.new.steps 8 1 _ _ l.2 (c.descend.ensures.steps l.0 l.1) in
    let w = c.whole-end.ensures.steps in
    omega arith
