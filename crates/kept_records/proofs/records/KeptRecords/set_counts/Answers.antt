use Rattle.std.proofs.Common.{rules, refl, sym, None, Some}
use Rattle.kept_slots.specs.Slots.{Writes}
use Rattle.kept_records.specs.declared.element.KeptElement.{KeptElement}
use Rattle.kept_records.specs.Books.{KeptView}
use Rattle.kept_records.proofs.Booking.{writes-again, booked-rewritten}
use Rattle.kept_records.proofs.records.KeptRecords.set_counts.Goals as goal

pub returns-in-Some-clause-booked : goal.returns-in-Some-clause-booked
returns-in-Some-clause-booked c = λ booked.
    let s = c.self.inside in
    let before : KeptView = record { slots = s.slots; total = s.books.total; ids = s.books.ids } in
    let k = c.in-Some.kept.value in
    let changed : KeptElement = record k { stuck = c.args.stuck; counts = c.args.counts } in
    let second : Writes c.take.new.self c.replace.new.self.slots c.args.number (Some changed) = search rules in
    let writes = writes-again s.slots c.take.new.self c.replace.new.self.slots c.args.number None (Some changed) c.in-Some.ensures.change second in
    booked-rewritten before c.replace.new.self c.args.number k changed (sym c.in-Some.ensures.was) writes refl c.replace.ensures.total c.replace.ensures.ids (rw (← c.self.view_is) at booked)
