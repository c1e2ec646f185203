use Rattle.std.proofs.Common.{◌≡◌, ap, refl, sym, ◌∙◌, Some, None, arith}
use Rattle.kept_slots.specs.Slots.{at}
use Rattle.kept_records.specs.Books.{KeptView, all_atoms}
use Rattle.kept_records.proofs.Booking.{keeps-none, booked-same, booked-less, table-less, total-less}
use Rattle.kept_records.proofs.records.KeptRecords.take.Goals as goal

pub returns-in_err-kept-clause-booked : goal.returns-in_err-kept-clause-booked
returns-in_err-kept-clause-booked c =
    let s = c.self.inside in
    let before : KeptView = record { slots = s.slots; total = s.books.total; ids = s.books.ids } in
    let after : KeptView = record { slots = c.take.new.self; total = s.books.total; ids = s.books.ids } in
    booked-same before after (keeps-none s.slots c.take.new.self c.args.number (sym c.in_err-kept.ensures.was) c.in_err-kept.ensures.change) refl refl (rw (← c.self.view_is) at c.requires)

pub remove-requires-clause-total : goal.remove-requires-clause-total
remove-requires-clause-total c =
    let s = c.self.inside in
    let booked = rw (← c.self.view_is) at c.requires in
    let k = c.deref.result.now in
    let was : at s.slots c.args.number ≡ Some k = sym c.in_ok-kept.ensures.was ∙ ap Some (sym c.deref.ensures) in
    let total = booked.total_is in
    let less = total-less s.slots c.take.new.self c.args.number k was c.in_ok-kept.ensures.change in
    omega (arith, total, less)

pub remove-requires-clause-ids : goal.remove-requires-clause-ids
remove-requires-clause-ids c =
    let s = c.self.inside in
    let booked = rw (← c.self.view_is) at c.requires in
    let k = c.deref.result.now in
    let was : at s.slots c.args.number ≡ Some k = sym c.in_ok-kept.ensures.was ∙ ap Some (sym c.deref.ensures) in
    (all_atoms c.take.new.self, table-less s.slots c.take.new.self c.args.number k s.books.ids was c.in_ok-kept.ensures.change booked.ids_are)

pub returns-clause-booked : goal.returns-clause-booked
returns-clause-booked c =
    let s = c.self.inside in
    let before : KeptView = record { slots = s.slots; total = s.books.total; ids = s.books.ids } in
    let after : KeptView = record { slots = c.take.new.self; total = c.remove.new.self.total; ids = c.remove.new.self.ids } in
    let k = c.deref.result.now in
    let was : at s.slots c.args.number ≡ Some k = sym c.in_ok-kept.ensures.was ∙ ap Some (sym c.deref.ensures) in
    booked-less before after c.args.number k was c.in_ok-kept.ensures.change c.remove.ensures.total c.remove.ensures.ids (rw (← c.self.view_is) at c.requires)
