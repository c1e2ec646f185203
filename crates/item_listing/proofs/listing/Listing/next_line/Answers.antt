use Rattle.std.proofs.Common.{◌≤◌, ◌∙◌, sym, ap, refl, arith, Ok, Err, length}
use Rattle.item_listing.proofs.Reading.{whole_gives, begun_item, begun_fault, from_line-length}
use Rattle.item_listing.proofs.Searching.{plain_rest}
use Rattle.item_listing.proofs.listing.Listing.next_line.Goals as goal

pub invariant_of-self : goal.invariant_of-self
invariant_of-self c =
    let s = c.self.inside in
    let h : s.at ≤ length s.bytes.items = omega (arith, s.bytes.ok.0, c.self.invariant.within) in
    let none = rw c.deref.ensures.value at c.in_default.ensures in
    record {
      within = rw c.deref.ensures.value (omega (arith, s.bytes.ok.0, from_line-length s.bytes.items s.at h));
      plain = rw c.deref.ensures.value (plain_rest s.at s.bytes.items _ h refl none);
      few = c.self.invariant.few;
      lines = c.self.invariant.lines;
    }

pub returns-in_default-clause-item : goal.returns-in_default-clause-item
returns-in_default-clause-item c =
    let s = c.self.inside in
    let h : s.at ≤ length s.bytes.items = omega (arith, s.bytes.ok.0, c.self.invariant.within) in
    rw (← c.self.view_is) (begun_item s.bytes.items s.at s.past s.finished c.read_begun.result h (rw c.deref.ensures.value at c.in_default.ensures) (rw c.deref.ensures.value at c.read_begun.ensures))

pub returns-in_default-clause-fault : goal.returns-in_default-clause-fault
returns-in_default-clause-fault c =
    let s = c.self.inside in
    let h : s.at ≤ length s.bytes.items = omega (arith, s.bytes.ok.0, c.self.invariant.within) in
    rw (← c.self.view_is) (begun_fault s.bytes.items s.at s.past s.finished c.read_begun.result h (rw c.deref.ensures.value at c.in_default.ensures) (rw c.deref.ensures.value at c.read_begun.ensures))

pub returns-in-Ok-clause-item : goal.returns-in-Ok-clause-item
returns-in-Ok-clause-item c =
    let s = c.self.inside in
    let h : s.at ≤ length s.bytes.items = omega (arith, s.bytes.ok.0, c.self.invariant.within) in
    rw (← c.self.view_is) (whole_gives s.bytes.items s.at c.in-Some.count s.past s.finished (Ok c.in-Ok.item) h
    (rw c.deref.ensures.value at c.in-Some.ensures) (rw c.deref.ensures.value at c.in-Ok.ensures))

pub returns-in-Err-Refused-clause-fault : goal.returns-in-Err-Refused-clause-fault
returns-in-Err-Refused-clause-fault c =
    let s = c.self.inside in
    let h : s.at ≤ length s.bytes.items = omega (arith, s.bytes.ok.0, c.self.invariant.within) in
    rw (← c.self.view_is) (whole_gives s.bytes.items s.at c.in-Some.count s.past s.finished (Err c.in-Err-Refused.reason) h
    (rw c.deref.ensures.value at c.in-Some.ensures) (rw (c.deref.ensures.value, c.in-Err-Refused.field-0-is) at c.in-Err-Refused.ensures) ∙ ap Err (sym c.at_next.ensures))
