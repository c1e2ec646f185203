use Rattle.std.proofs.Common.{arith}
use Rattle.std.specs.Prelude.{remove}
use Rattle.model_lists.proofs.Entries.{counted}
use Rattle.model_lists.proofs.Others.{by-update}
use Rattle.model_lists.proofs.RowKeeping.{row-live, row-removed}
use Rattle.model_lists.proofs.MemberKeeping.{member-live, member-removed}
use Rattle.model_lists.proofs.Handling.{as-many, row-in, row-of, row-shaped, row-now, row-frame, member-of, member-now, member-frame}
use Rattle.model_lists.proofs.lists.ModelLists.remove.Goals as goal

pub index_mut-requires : goal.index_mut-requires
index_mut-requires g c =
    let q = rw (← c.self.view_is) at c.requires in
    as-many _ _ _ c.self.inside.rows.ok.0 (row-in c.self.inside.rows.items c.self.inside.alls c.args.list c.in-Some.dead c.in-Some.is q.0 q.1 q.2)

pub remove_at-requires : goal.remove_at-requires
remove_at-requires g c =
    let q = rw (← c.self.view_is) at c.requires in
    let live = row-live c.index_mut.result.now c.args.list.list q.0 q.1 (row-of c.self.inside.rows.items c.self.inside.alls c.args.list c.in-Some.dead c.in-Some.is c.index_mut.result.now c.index_mut.ensures.value q.0 q.1 q.2) in
    let n = live.2 in
    let l = q.3 in
    (live.0, live.1, omega arith)

pub invariant_of-self : goal.invariant_of-self
invariant_of-self g c =
    let q = rw (← c.self.view_is) at c.requires in
    let within = row-in c.self.inside.rows.items c.self.inside.alls c.args.list c.in-Some.dead c.in-Some.is q.0 q.1 q.2 in
    let live = row-live c.index_mut.result.now c.args.list.list q.0 q.1 (row-of c.self.inside.rows.items c.self.inside.alls c.args.list c.in-Some.dead c.in-Some.is c.index_mut.result.now c.index_mut.ensures.value q.0 q.1 q.2) in
    row-shaped c.self.inside.rows.items c.self.inside.alls c.args.list c.in-Some.dead c.in-Some.is c.index_mut.result.now c.index_mut.ensures.value c.remove_at.new.seqs within (c.remove_at.ensures.change live.0 live.1).shape c.self.invariant

pub returns-in-Some-clause-list : goal.returns-in-Some-clause-list
returns-in-Some-clause-list g c =
    let q = rw (← c.self.view_is) at c.requires in
    let within = row-in c.self.inside.rows.items c.self.inside.alls c.args.list c.in-Some.dead c.in-Some.is q.0 q.1 q.2 in
    rw (← c.self.view_is) (λ a symbols l. row-now c.self.inside.rows.items c.self.inside.alls c.args.list c.in-Some.dead c.in-Some.is c.index_mut.result.now c.index_mut.ensures.value c.remove_at.new.seqs within a (remove symbols c.args.place)
    (row-removed c.index_mut.result.now c.args.list.list c.remove_at.new.seqs c.args.place c.remove_at.ensures.change a symbols (row-of c.self.inside.rows.items c.self.inside.alls c.args.list c.in-Some.dead c.in-Some.is c.index_mut.result.now c.index_mut.ensures.value a symbols l)))

pub returns-in-Some-clause-others : goal.returns-in-Some-clause-others
returns-in-Some-clause-others g c =
    let q = rw (← c.self.view_is) at c.requires in
    let within = row-in c.self.inside.rows.items c.self.inside.alls c.args.list c.in-Some.dead c.in-Some.is q.0 q.1 q.2 in
    let live = row-live c.index_mut.result.now c.args.list.list q.0 q.1 (row-of c.self.inside.rows.items c.self.inside.alls c.args.list c.in-Some.dead c.in-Some.is c.index_mut.result.now c.index_mut.ensures.value q.0 q.1 q.2) in
    rw (← c.self.view_is) (row-frame c.self.inside.rows.items c.self.inside.alls c.args.list c.in-Some.dead c.in-Some.is c.index_mut.result.now c.index_mut.ensures.value c.remove_at.new.seqs within (by-update c.index_mut.result.now c.remove_at.new.seqs c.args.list.list _ (c.remove_at.ensures.change live.0 live.1)))

pub returns-in-Some-clause-steps : goal.returns-in-Some-clause-steps
returns-in-Some-clause-steps g c =
    rw (← c.self.view_is) (λ a symbols l.
    let live = row-live c.index_mut.result.now c.args.list.list a symbols (row-of c.self.inside.rows.items c.self.inside.alls c.args.list c.in-Some.dead c.in-Some.is c.index_mut.result.now c.index_mut.ensures.value a symbols l) in
    counted c.args.steps.now c.remove_at.new.steps 16 1 _ _ live.2 (c.remove_at.ensures.steps live.0 live.1))

pub remove_at-requires-in-None : goal.remove_at-requires-in-None
remove_at-requires-in-None g c =
    let q = rw (← c.self.view_is) at c.requires in
    let live = member-live c.self.inside.alls c.args.list.list q.0 q.1 (member-of c.self.inside.rows.items c.self.inside.alls c.self.inside.alls c.args.list c.in-None.is q.0 q.1 q.2) in
    let n = live.2 in
    let l = q.3 in
    (live.0, live.1, omega arith)

pub returns-in-None-clause-list : goal.returns-in-None-clause-list
returns-in-None-clause-list g c =
    rw (← c.self.view_is) (λ a symbols l. member-now c.self.inside.rows.items c.self.inside.alls c.remove_at-in-None.new.seqs c.args.list c.in-None.is a (remove symbols c.args.place)
    (member-removed c.self.inside.alls c.args.list.list c.remove_at-in-None.new.seqs c.args.place c.remove_at-in-None.ensures.change a symbols (member-of c.self.inside.rows.items c.self.inside.alls c.remove_at-in-None.new.seqs c.args.list c.in-None.is a symbols l)))

pub returns-in-None-clause-others : goal.returns-in-None-clause-others
returns-in-None-clause-others g c =
    let q = rw (← c.self.view_is) at c.requires in
    let live = member-live c.self.inside.alls c.args.list.list q.0 q.1 (member-of c.self.inside.rows.items c.self.inside.alls c.self.inside.alls c.args.list c.in-None.is q.0 q.1 q.2) in
    rw (← c.self.view_is) (member-frame c.self.inside.rows.items c.self.inside.alls c.remove_at-in-None.new.seqs c.args.list c.in-None.is (by-update c.self.inside.alls c.remove_at-in-None.new.seqs c.args.list.list _ (c.remove_at-in-None.ensures.change live.0 live.1)))

pub returns-in-None-clause-steps : goal.returns-in-None-clause-steps
returns-in-None-clause-steps g c =
    rw (← c.self.view_is) (λ a symbols l.
    let live = member-live c.self.inside.alls c.args.list.list a symbols (member-of c.self.inside.rows.items c.self.inside.alls c.remove_at-in-None.new.seqs c.args.list c.in-None.is a symbols l) in
    counted c.args.steps.now c.remove_at-in-None.new.steps 16 1 _ _ live.2 (c.remove_at-in-None.ensures.steps live.0 live.1))
