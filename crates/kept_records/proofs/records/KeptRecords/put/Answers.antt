use Rattle.std.proofs.Common.{◌+◌, List, ◌++◌, ◌∙◌, Some, ap, subst}
use Rattle.identity_tables.specs.Ids.{BorneAtom}
use Rattle.identity_tables.specs.Table.{IsTableOf}
use Rattle.kept_records.specs.declared.element.KeptElement.{KeptElement}
use Rattle.kept_records.specs.Books.{KeptView, codes_in, atoms_of}
use Rattle.kept_records.proofs.Booking.{keeps-writes, booked-more}
use Rattle.kept_records.proofs.records.KeptRecords.put.Goals as goal

pub returns-clause-change : goal.returns-clause-change
returns-clause-change c =
    let s = c.self.inside in
    rw (← c.self.view_is) (keeps-writes s.slots c.reach.new.self c.put.new.self c.args.number (Some c.args.kept.value) c.in_ok-reach.ensures.same c.put.ensures.change)

pub returns-clause-booked : goal.returns-clause-booked
returns-clause-booked c = λ booked.
    let s = c.self.inside in
    let before : KeptView = record { slots = s.slots; total = s.books.total; ids = s.books.ids } in
    let after : KeptView = record { slots = c.put.new.self; total = c.add.new.self.total; ids = c.add.new.self.ids } in
    let free = rw (← c.self.view_is) at c.requires in
    let writes = keeps-writes s.slots c.reach.new.self c.put.new.self c.args.number (Some c.args.kept.value) c.in_ok-reach.ensures.same c.put.ensures.change in
    booked-more before after c.args.number c.args.kept.value free writes (c.in_ok-add.ensures.total ∙ ap (λ (k : KeptElement). s.books.total + codes_in k) c.deref.ensures)
    (subst (λ (k : KeptElement). (atoms : List BorneAtom) → IsTableOf s.books.ids atoms → IsTableOf c.add.new.self.ids (atoms ++ atoms_of k.found)) c.deref.ensures c.in_ok-add.ensures.ids)
    (rw (← c.self.view_is) at booked)
