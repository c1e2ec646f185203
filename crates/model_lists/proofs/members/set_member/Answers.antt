use Rattle.std.proofs.Common.{arith}
use Rattle.model_lists.proofs.Entries.{counted}
use Rattle.model_lists.proofs.Others.{by-update}
use Rattle.model_lists.proofs.MemberKeeping.{over-members, member-live, member-written, member-leaf}
use Rattle.model_lists.proofs.members.set_member.Goals as goal

pub members_of-requires : goal.members_of-requires
members_of-requires g c =
    let q = c.requires.list in
    over-members c.args.lists.now c.args.list c.args.automaton.now q.0 q.1

pub set_at-requires-clause-list : goal.set_at-requires-clause-list
set_at-requires-clause-list g c =
    let q = c.requires.list in
    let l = member-live c.args.lists.now c.args.list c.args.automaton.now q.0 q.1 in
    let many = l.2 in
    let within = q.2 in
    (l.0, l.1, omega arith)

pub returns-clause-list : goal.returns-clause-list
returns-clause-list g c =
    λ symbols h. member-written c.args.automaton.now c.members_of.result.now c.members_of.ensures c.args.lists.now c.set_at.new.seqs c.args.list _ c.args.child.place c.args.child.symbol c.leaf_with-leaf.result c.is_ambivalent_symbol-marked.result (member-leaf c.members_of.result.now c.args.child.symbol c.is_ambivalent_symbol-marked.result _ c.leaf_with-leaf.result c.leaf_with-leaf.ensures c.letter.ensures) (c.is_ambivalent_symbol-marked.ensures c.requires.symbol) c.set_at.ensures.change symbols h

pub returns-clause-others : goal.returns-clause-others
returns-clause-others g c =
    let q = c.requires.list in
    let l = member-live c.args.lists.now c.args.list c.args.automaton.now q.0 q.1 in
    by-update c.args.lists.now c.set_at.new.seqs c.args.list _ (c.set_at.ensures.change l.0 l.1).1

pub returns-clause-steps : goal.returns-clause-steps
returns-clause-steps g c =
    λ symbols h.
    let l = member-live c.args.lists.now c.args.list c.args.automaton.now symbols h in
    counted c.args.steps.now c.set_at.new.steps 16 1 _ _ l.2 (c.set_at.ensures.steps l.0 l.1)
