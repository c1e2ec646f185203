use Rattle.std.proofs.Common.{◌∙◌, ap}
use Rattle.item_listing.specs.Listing.{bytes_taken}
use Rattle.item_listing.proofs.Reading.{reads_on, reads-fault, taken, drained_if}
use Rattle.item_listing.proofs.listing.Listing.next_item.Goals as goal

pub returns-in-Ok-clause-listed : goal.returns-in-Ok-clause-listed
returns-in-Ok-clause-listed c = reads_on c.args.self.now c.next_line.new.self c.in-Ok.item c.in-Ok.ensures.item c.in-Ok.ensures.after

pub returns-in-Ok-clause-taken : goal.returns-in-Ok-clause-taken
returns-in-Ok-clause-taken c = ap bytes_taken c.in-Ok.ensures.after ∙ taken c.args.self.now c.in-Ok.item c.in-Ok.ensures.item

pub returns-in-Ok-clause-drained : goal.returns-in-Ok-clause-drained
returns-in-Ok-clause-drained c = drained_if c.args.self.now c.in-Ok.item c.in-Ok.ensures.item c.next_line.ensures.few

pub returns-in-Err-Fault-clause-listed : goal.returns-in-Err-Fault-clause-listed
returns-in-Err-Fault-clause-listed c = reads-fault c.args.self.now c.in-Err-Fault.fault (rw c.in-Err-Fault.field-0-is at c.in-Err-Fault.ensures.fault)
