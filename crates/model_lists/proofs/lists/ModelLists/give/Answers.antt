use Rattle.model_lists.proofs.Others.{by-update}
use Rattle.model_lists.proofs.RowKeeping.{row-live}
use Rattle.model_lists.proofs.MemberKeeping.{member-live}
use Rattle.model_lists.proofs.Handling.{as-many, row-in, row-of, row-shaped, row-frame, row-gone, member-of, member-frame, member-gone}
use Rattle.model_lists.proofs.lists.ModelLists.give.Goals as goal

pub index_mut-requires : goal.index_mut-requires
index_mut-requires c =
    let q = rw (← c.self.view_is) at c.requires in
    as-many _ _ _ c.self.inside.rows.ok.0 (row-in c.self.inside.rows.items c.self.inside.alls c.args.list c.in-Some.dead c.in-Some.is q.0 q.1 q.2)

pub drop_seq-requires : goal.drop_seq-requires
drop_seq-requires c =
    let q = rw (← c.self.view_is) at c.requires in
    let live = row-live c.index_mut.result.now c.args.list.list q.0 q.1 (row-of c.self.inside.rows.items c.self.inside.alls c.args.list c.in-Some.dead c.in-Some.is c.index_mut.result.now c.index_mut.ensures.value q.0 q.1 q.2) in
    (live.0, live.1)

pub invariant_of-self : goal.invariant_of-self
invariant_of-self c =
    let q = rw (← c.self.view_is) at c.requires in
    let within = row-in c.self.inside.rows.items c.self.inside.alls c.args.list c.in-Some.dead c.in-Some.is q.0 q.1 q.2 in
    row-shaped c.self.inside.rows.items c.self.inside.alls c.args.list c.in-Some.dead c.in-Some.is c.index_mut.result.now c.index_mut.ensures.value c.drop_seq.new.self within c.drop_seq.ensures.shape c.self.invariant

pub returns-in-Some-clause-gone : goal.returns-in-Some-clause-gone
returns-in-Some-clause-gone c =
    let q = rw (← c.self.view_is) at c.requires in
    let within = row-in c.self.inside.rows.items c.self.inside.alls c.args.list c.in-Some.dead c.in-Some.is q.0 q.1 q.2 in
    row-gone c.self.inside.rows.items c.self.inside.alls c.args.list c.in-Some.dead c.in-Some.is c.index_mut.result.now c.index_mut.ensures.value c.drop_seq.new.self within c.drop_seq.ensures.changed

pub returns-in-Some-clause-others : goal.returns-in-Some-clause-others
returns-in-Some-clause-others c =
    let q = rw (← c.self.view_is) at c.requires in
    let within = row-in c.self.inside.rows.items c.self.inside.alls c.args.list c.in-Some.dead c.in-Some.is q.0 q.1 q.2 in
    rw (← c.self.view_is) (row-frame c.self.inside.rows.items c.self.inside.alls c.args.list c.in-Some.dead c.in-Some.is c.index_mut.result.now c.index_mut.ensures.value c.drop_seq.new.self within (by-update c.index_mut.result.now c.drop_seq.new.self c.args.list.list _ c.drop_seq.ensures))

pub drop_seq-requires-in-None : goal.drop_seq-requires-in-None
drop_seq-requires-in-None c =
    let q = rw (← c.self.view_is) at c.requires in
    let live = member-live c.self.inside.alls c.args.list.list q.0 q.1 (member-of c.self.inside.rows.items c.self.inside.alls c.self.inside.alls c.args.list c.in-None.is q.0 q.1 q.2) in
    (live.0, live.1)

pub returns-in-None-clause-gone : goal.returns-in-None-clause-gone
returns-in-None-clause-gone c =
    member-gone c.self.inside.rows.items c.self.inside.alls c.drop_seq-in-None.new.self c.args.list c.in-None.is c.drop_seq-in-None.ensures.changed

pub returns-in-None-clause-others : goal.returns-in-None-clause-others
returns-in-None-clause-others c =
    rw (← c.self.view_is) (member-frame c.self.inside.rows.items c.self.inside.alls c.drop_seq-in-None.new.self c.args.list c.in-None.is (by-update c.self.inside.alls c.drop_seq-in-None.new.self c.args.list.list _ c.drop_seq-in-None.ensures))
