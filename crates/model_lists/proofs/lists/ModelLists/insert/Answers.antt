use Rattle.std.proofs.Common.{ap}
use Rattle.std.specs.Prelude.{insert}
use Rattle.model_lists.proofs.Others.{on-ok, on-err}
use Rattle.model_lists.proofs.Handling.{as-many, view, row-in, row-of, row-shaped, row-now, row-frame, row-same, member-of, member-now, member-frame}
use Rattle.model_lists.proofs.lists.ModelLists.insert.Goals as goal

pub index_mut-requires : goal.index_mut-requires
index_mut-requires g c =
    let q = rw (← c.self.view_is) at c.requires.list in
    as-many _ _ _ c.self.inside.rows.ok.0 (row-in c.self.inside.rows.items c.self.inside.alls c.args.list c.in-Some.dead c.in-Some.is c.args.automaton.now q.0 q.1)

pub insert_row-requires-clause-list : goal.insert_row-requires-clause-list
insert_row-requires-clause-list g c =
    let q = rw (← c.self.view_is) at c.requires.list in
    (q.0, row-of c.self.inside.rows.items c.self.inside.alls c.args.list c.in-Some.dead c.in-Some.is c.index_mut.result.now c.index_mut.ensures.value c.args.automaton.now q.0 q.1, q.2)

pub invariant_of-self : goal.invariant_of-self
invariant_of-self g c =
    let q = rw (← c.self.view_is) at c.requires.list in
    let within = row-in c.self.inside.rows.items c.self.inside.alls c.args.list c.in-Some.dead c.in-Some.is c.args.automaton.now q.0 q.1 in
    row-shaped c.self.inside.rows.items c.self.inside.alls c.args.list c.in-Some.dead c.in-Some.is c.index_mut.result.now c.index_mut.ensures.value c.insert_row.new.lists within c.insert_row.ensures.others.shape c.self.invariant

pub returns-in-Some-clause-list : goal.returns-in-Some-clause-list
returns-in-Some-clause-list g c =
    let q = rw (← c.self.view_is) at c.requires.list in
    let within = row-in c.self.inside.rows.items c.self.inside.alls c.args.list c.in-Some.dead c.in-Some.is c.args.automaton.now q.0 q.1 in
    rw (← c.self.view_is) (on-ok c.insert_row.result c.insert_row.ensures.list (λ f symbols l. row-now c.self.inside.rows.items c.self.inside.alls c.args.list c.in-Some.dead c.in-Some.is c.index_mut.result.now c.index_mut.ensures.value c.insert_row.new.lists within c.args.automaton.now (insert symbols c.args.child.place c.args.child.symbol) (f symbols (row-of c.self.inside.rows.items c.self.inside.alls c.args.list c.in-Some.dead c.in-Some.is c.index_mut.result.now c.index_mut.ensures.value c.args.automaton.now symbols l))))

pub returns-in-Some-clause-err : goal.returns-in-Some-clause-err
returns-in-Some-clause-err g c =
    let q = rw (← c.self.view_is) at c.requires.list in
    let within = row-in c.self.inside.rows.items c.self.inside.alls c.args.list c.in-Some.dead c.in-Some.is c.args.automaton.now q.0 q.1 in
    rw (← c.self.view_is) (on-err c.insert_row.result c.insert_row.ensures.err (row-same c.self.inside.rows.items c.self.inside.alls c.args.list c.in-Some.dead c.in-Some.is c.index_mut.result.now c.index_mut.ensures.value c.insert_row.new.lists within))

pub returns-in-Some-clause-others : goal.returns-in-Some-clause-others
returns-in-Some-clause-others g c =
    let q = rw (← c.self.view_is) at c.requires.list in
    let within = row-in c.self.inside.rows.items c.self.inside.alls c.args.list c.in-Some.dead c.in-Some.is c.args.automaton.now q.0 q.1 in
    rw (← c.self.view_is) (row-frame c.self.inside.rows.items c.self.inside.alls c.args.list c.in-Some.dead c.in-Some.is c.index_mut.result.now c.index_mut.ensures.value c.insert_row.new.lists within c.insert_row.ensures.others)

pub returns-in-Some-clause-steps : goal.returns-in-Some-clause-steps
returns-in-Some-clause-steps g c =
    rw (← c.self.view_is) (λ symbols l. c.insert_row.ensures.steps symbols (row-of c.self.inside.rows.items c.self.inside.alls c.args.list c.in-Some.dead c.in-Some.is c.index_mut.result.now c.index_mut.ensures.value c.args.automaton.now symbols l))

pub insert_member-requires-clause-list : goal.insert_member-requires-clause-list
insert_member-requires-clause-list g c =
    let q = rw (← c.self.view_is) at c.requires.list in
    (q.0, member-of c.self.inside.rows.items c.self.inside.alls c.self.inside.alls c.args.list c.in-None.is c.args.automaton.now q.0 q.1, q.2)

pub returns-in-None-clause-list : goal.returns-in-None-clause-list
returns-in-None-clause-list g c =
    rw (← c.self.view_is) (on-ok c.insert_member.result c.insert_member.ensures.list (λ f symbols l. member-now c.self.inside.rows.items c.self.inside.alls c.insert_member.new.lists c.args.list c.in-None.is c.args.automaton.now (insert symbols c.args.child.place c.args.child.symbol) (f symbols (member-of c.self.inside.rows.items c.self.inside.alls c.insert_member.new.lists c.args.list c.in-None.is c.args.automaton.now symbols l))))

pub returns-in-None-clause-err : goal.returns-in-None-clause-err
returns-in-None-clause-err g c =
    rw (← c.self.view_is) (on-err c.insert_member.result c.insert_member.ensures.err (λ e. ap (view c.self.inside.rows.items) e))

pub returns-in-None-clause-others : goal.returns-in-None-clause-others
returns-in-None-clause-others g c =
    rw (← c.self.view_is) (member-frame c.self.inside.rows.items c.self.inside.alls c.insert_member.new.lists c.args.list c.in-None.is c.insert_member.ensures.others)

pub returns-in-None-clause-steps : goal.returns-in-None-clause-steps
returns-in-None-clause-steps g c =
    rw (← c.self.view_is) (λ symbols l. c.insert_member.ensures.steps symbols (member-of c.self.inside.rows.items c.self.inside.alls c.insert_member.new.lists c.args.list c.in-None.is c.args.automaton.now symbols l))
