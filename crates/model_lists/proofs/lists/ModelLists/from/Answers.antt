use Rattle.model_lists.proofs.Handling.{as-many, row-in, row-of, member-of}
use Rattle.model_lists.proofs.lists.ModelLists.from.Goals as goal

pub index-requires : goal.index-requires
index-requires g c =
    let q = rw (← c.self.view_is) at c.requires in
    as-many _ _ _ c.self.inside.rows.ok.0 (row-in c.self.inside.rows.items c.self.inside.alls c.args.list c.in-Some.dead c.in-Some.is q.0 q.2 q.4)

pub row_from-requires : goal.row_from-requires
row_from-requires g c =
    let q = rw (← c.self.view_is) at c.requires in
    (q.0, q.1, q.2, q.3, row-of c.self.inside.rows.items c.self.inside.alls c.args.list c.in-Some.dead c.in-Some.is c.index.result.now c.index.ensures q.0 q.2 q.4, q.5)

pub returns-in-Some-clause-state : goal.returns-in-Some-clause-state
returns-in-Some-clause-state g c =
    rw (← c.self.view_is) (λ a before symbols s l. c.row_from.ensures.state a before symbols s (row-of c.self.inside.rows.items c.self.inside.alls c.args.list c.in-Some.dead c.in-Some.is c.index.result.now c.index.ensures a symbols l))

pub returns-in-Some-clause-steps : goal.returns-in-Some-clause-steps
returns-in-Some-clause-steps g c =
    rw (← c.self.view_is) (λ a symbols l. c.row_from.ensures.steps a symbols (row-of c.self.inside.rows.items c.self.inside.alls c.args.list c.in-Some.dead c.in-Some.is c.index.result.now c.index.ensures a symbols l))

pub member_from-requires : goal.member_from-requires
member_from-requires g c =
    let q = rw (← c.self.view_is) at c.requires in
    (q.0, q.1, q.2, q.3, member-of c.self.inside.rows.items c.self.inside.alls c.self.inside.alls c.args.list c.in-None.is q.0 q.2 q.4, q.5)

pub returns-in-None-clause-state : goal.returns-in-None-clause-state
returns-in-None-clause-state g c =
    rw (← c.self.view_is) (λ a before symbols s l. c.member_from.ensures.state a before symbols s (member-of c.self.inside.rows.items c.self.inside.alls c.self.inside.alls c.args.list c.in-None.is a symbols l))

pub returns-in-None-clause-steps : goal.returns-in-None-clause-steps
returns-in-None-clause-steps g c =
    rw (← c.self.view_is) (λ a symbols l. c.member_from.ensures.steps a symbols (member-of c.self.inside.rows.items c.self.inside.alls c.self.inside.alls c.args.list c.in-None.is a symbols l))
