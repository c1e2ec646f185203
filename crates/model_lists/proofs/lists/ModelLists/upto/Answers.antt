use Rattle.model_lists.proofs.Handling.{as-many, row-in, row-of, member-of}
use Rattle.model_lists.proofs.lists.ModelLists.upto.Goals as goal

pub index-requires : goal.index-requires
index-requires g c =
    let q = rw (← c.self.view_is) at c.requires in
    as-many _ _ _ c.self.inside.rows.ok.0 (row-in c.self.inside.rows.items c.self.inside.alls c.args.list c.in-Some.dead c.in-Some.is c.args.automaton.now q.0 q.1)

pub row_upto-requires : goal.row_upto-requires
row_upto-requires g c =
    let q = rw (← c.self.view_is) at c.requires in
    (q.0, row-of c.self.inside.rows.items c.self.inside.alls c.args.list c.in-Some.dead c.in-Some.is c.index.result.now c.index.ensures c.args.automaton.now q.0 q.1, q.2)

pub returns-in-Some-clause-state : goal.returns-in-Some-clause-state
returns-in-Some-clause-state g c =
    rw (← c.self.view_is) (λ symbols l. c.row_upto.ensures.state symbols (row-of c.self.inside.rows.items c.self.inside.alls c.args.list c.in-Some.dead c.in-Some.is c.index.result.now c.index.ensures c.args.automaton.now symbols l))

pub returns-in-Some-clause-steps : goal.returns-in-Some-clause-steps
returns-in-Some-clause-steps g c =
    rw (← c.self.view_is) (λ symbols l. c.row_upto.ensures.steps symbols (row-of c.self.inside.rows.items c.self.inside.alls c.args.list c.in-Some.dead c.in-Some.is c.index.result.now c.index.ensures c.args.automaton.now symbols l))

pub member_upto-requires : goal.member_upto-requires
member_upto-requires g c =
    let q = rw (← c.self.view_is) at c.requires in
    (q.0, member-of c.self.inside.rows.items c.self.inside.alls c.self.inside.alls c.args.list c.in-None.is c.args.automaton.now q.0 q.1, q.2)

pub returns-in-None-clause-state : goal.returns-in-None-clause-state
returns-in-None-clause-state g c =
    rw (← c.self.view_is) (λ symbols l. c.member_upto.ensures.state symbols (member-of c.self.inside.rows.items c.self.inside.alls c.self.inside.alls c.args.list c.in-None.is c.args.automaton.now symbols l))

pub returns-in-None-clause-steps : goal.returns-in-None-clause-steps
returns-in-None-clause-steps g c =
    rw (← c.self.view_is) (λ symbols l. c.member_upto.ensures.steps symbols (member-of c.self.inside.rows.items c.self.inside.alls c.self.inside.alls c.args.list c.in-None.is c.args.automaton.now symbols l))
