use Rattle.model_lists.proofs.Handling.{as-many, row-in, row-of, member-of}
use Rattle.model_lists.proofs.lists.ModelLists.stuck.Goals as goal

pub index-requires : goal.index-requires
index-requires g c =
    let q = rw (← c.self.view_is) at c.requires in
    as-many _ _ _ c.self.inside.rows.ok.0 (row-in c.self.inside.rows.items c.self.inside.alls c.args.list c.in-Some.dead c.in-Some.is c.args.automaton.now q.0 q.1)

pub stuck_row-requires : goal.stuck_row-requires
stuck_row-requires g c =
    let q = rw (← c.self.view_is) at c.requires in
    (q.0, row-of c.self.inside.rows.items c.self.inside.alls c.args.list c.in-Some.dead c.in-Some.is c.index.result.now c.index.ensures c.args.automaton.now q.0 q.1, q.2)

pub returns-in-Some-clause-stuck : goal.returns-in-Some-clause-stuck
returns-in-Some-clause-stuck g c =
    rw (← c.self.view_is) (λ symbols l. c.stuck_row.ensures.stuck symbols (row-of c.self.inside.rows.items c.self.inside.alls c.args.list c.in-Some.dead c.in-Some.is c.index.result.now c.index.ensures c.args.automaton.now symbols l))

pub returns-in-Some-clause-steps : goal.returns-in-Some-clause-steps
returns-in-Some-clause-steps g c =
    rw (← c.self.view_is) (λ symbols l. c.stuck_row.ensures.steps symbols (row-of c.self.inside.rows.items c.self.inside.alls c.args.list c.in-Some.dead c.in-Some.is c.index.result.now c.index.ensures c.args.automaton.now symbols l))

pub stuck_member-requires : goal.stuck_member-requires
stuck_member-requires g c =
    let q = rw (← c.self.view_is) at c.requires in
    (q.0, member-of c.self.inside.rows.items c.self.inside.alls c.self.inside.alls c.args.list c.in-None.is c.args.automaton.now q.0 q.1, q.2)

pub returns-in-None-clause-stuck : goal.returns-in-None-clause-stuck
returns-in-None-clause-stuck g c =
    rw (← c.self.view_is) (λ symbols l. c.stuck_member.ensures.stuck symbols (member-of c.self.inside.rows.items c.self.inside.alls c.self.inside.alls c.args.list c.in-None.is c.args.automaton.now symbols l))

pub returns-in-None-clause-steps : goal.returns-in-None-clause-steps
returns-in-None-clause-steps g c =
    rw (← c.self.view_is) (λ symbols l. c.stuck_member.ensures.steps symbols (member-of c.self.inside.rows.items c.self.inside.alls c.self.inside.alls c.args.list c.in-None.is c.args.automaton.now symbols l))
