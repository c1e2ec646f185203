use Rattle.std.proofs.Common.{ap, ◌∙◌}
use Rattle.std.specs.Prelude.{slice_get}
use Rattle.model_lists.specs.Lists.{places_from}
use Rattle.model_lists.proofs.RowKeeping.{row-live, row-marks}
use Rattle.model_lists.proofs.MemberKeeping.{member-live, member-marks}
use Rattle.model_lists.proofs.Handling.{as-many, row-in, row-of, member-of}
use Rattle.model_lists.proofs.lists.ModelLists.marked.Goals as goal

pub index-requires : goal.index-requires
index-requires c =
    let q = rw (← c.self.view_is) at c.requires in
    as-many _ _ _ c.self.inside.rows.ok.0 (row-in c.self.inside.rows.items c.self.inside.alls c.args.list c.in-Some.dead c.in-Some.is q.0 q.1 q.2)

pub marked_place-requires : goal.marked_place-requires
marked_place-requires c =
    let q = rw (← c.self.view_is) at c.requires in
    let live = row-live c.index.result.now c.args.list.list q.0 q.1 (row-of c.self.inside.rows.items c.self.inside.alls c.args.list c.in-Some.dead c.in-Some.is c.index.result.now c.index.ensures q.0 q.1 q.2) in
    (live.0, live.1)

pub returns-in-Some : goal.returns-in-Some
returns-in-Some c =
    rw (← c.self.view_is) (λ a symbols l.
    let marks = row-marks c.index.result.now c.args.list.list a symbols (row-of c.self.inside.rows.items c.self.inside.alls c.args.list c.in-Some.dead c.in-Some.is c.index.result.now c.index.ensures a symbols l) in
    c.marked_place.ensures marks.0 marks.1 ∙ ap (λ bs. slice_get (places_from 0 bs) c.args.number) marks.2)

pub marked_place-requires-in-None : goal.marked_place-requires-in-None
marked_place-requires-in-None c =
    let q = rw (← c.self.view_is) at c.requires in
    let live = member-live c.self.inside.alls c.args.list.list q.0 q.1 (member-of c.self.inside.rows.items c.self.inside.alls c.self.inside.alls c.args.list c.in-None.is q.0 q.1 q.2) in
    (live.0, live.1)

pub returns-in-None : goal.returns-in-None
returns-in-None c =
    rw (← c.self.view_is) (λ a symbols l.
    let marks = member-marks c.self.inside.alls c.args.list.list a symbols (member-of c.self.inside.rows.items c.self.inside.alls c.self.inside.alls c.args.list c.in-None.is a symbols l) in
    c.marked_place-in-None.ensures marks.0 marks.1 ∙ ap (λ bs. slice_get (places_from 0 bs) c.args.number) marks.2)
