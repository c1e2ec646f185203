use Rattle.model_lists.proofs.Entries.{counted}
use Rattle.model_lists.proofs.Others.{by-update, same-others}
use Rattle.model_lists.proofs.MemberKeeping.{over-members, member-live, member-place, member-inserted, member-leaf}
use Rattle.model_lists.proofs.members.insert_member.Goals as goal

pub members_of-requires : goal.members_of-requires
members_of-requires g c =
    let q = c.requires.list in
    over-members c.args.lists.now c.args.list c.args.automaton.now q.0 q.1

pub insert-requires-clause-live : goal.insert-requires-clause-live
insert-requires-clause-live g c =
    let q = c.requires.list in
    let l = member-live c.args.lists.now c.args.list c.args.automaton.now q.0 q.1 in
    (l.0, l.1)

pub insert-requires-clause-place : goal.insert-requires-clause-place
insert-requires-clause-place g c =
    let q = c.requires.list in
    member-place c.args.lists.now c.args.list c.args.automaton.now q.0 q.1 c.args.child.place q.2

pub returns-clause-list : goal.returns-clause-list
returns-clause-list g c =
    λ symbols h. member-inserted c.args.automaton.now c.members_of.result.now c.members_of.ensures c.args.lists.now c.insert.new.self c.args.list _ c.args.child.place c.args.child.symbol c.leaf_with-leaf.result c.is_ambivalent_symbol-marked.result (member-leaf c.members_of.result.now c.args.child.symbol c.is_ambivalent_symbol-marked.result _ c.leaf_with-leaf.result c.leaf_with-leaf.ensures c.letter.ensures) (c.is_ambivalent_symbol-marked.ensures c.requires.symbol) _ c.in_ok-insert.ensures.ok symbols h

pub returns-clause-others : goal.returns-clause-others
returns-clause-others g c =
    let q = c.requires.list in
    let l = member-live c.args.lists.now c.args.list c.args.automaton.now q.0 q.1 in
    by-update c.args.lists.now c.insert.new.self c.args.list _ (c.in_ok-insert.ensures.ok l.0 l.1)

pub returns-clause-steps : goal.returns-clause-steps
returns-clause-steps g c =
    λ symbols h.
    let l = member-live c.args.lists.now c.args.list c.args.automaton.now symbols h in
    counted c.args.steps.now c.insert.new.steps 16 2 _ _ l.2 (c.insert.ensures.steps l.0 l.1)

pub returns-in_err-insert-clause-others : goal.returns-in_err-insert-clause-others
returns-in_err-insert-clause-others g c =
    same-others c.args.lists.now c.insert.new.self c.args.list c.in_err-insert.ensures.err

pub returns-in_err-insert-clause-steps : goal.returns-in_err-insert-clause-steps
returns-in_err-insert-clause-steps g c =
    λ symbols h.
    let l = member-live c.args.lists.now c.args.list c.args.automaton.now symbols h in
    counted c.args.steps.now c.insert.new.steps 16 2 _ _ l.2 (c.insert.ensures.steps l.0 l.1)
