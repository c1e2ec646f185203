use Rattle.schema_set.proofs.EntryLaws.{effective-set, in-order}
use Rattle.schema_set.proofs.FaultLaws.{set-least}
use Rattle.schema_set.proofs.closing.close.Goals as goal

pub returns-in-Ok-clause-set : goal.returns-in-Ok-clause-set
returns-in-Ok-clause-set c =
    effective-set c.args.sources.now.available.now c.args.start c.requires.place c.in_ok-seen.seen.items c.in_ok-seen.ensures.reached c.in_ok-documents.documents (rw c.deref.ensures.value at c.in_ok-documents.ensures)

pub returns-in-Ok-clause-order : goal.returns-in-Ok-clause-order
returns-in-Ok-clause-order c =
    in-order c.args.sources.now.available.now c.args.start c.requires.place c.in_ok-seen.seen.items c.in_ok-seen.ensures.reached c.in_ok-documents.documents (rw c.deref.ensures.value at c.in_ok-documents.ensures)

pub returns-in-Ok-clause-fault : goal.returns-in-Ok-clause-fault
returns-in-Ok-clause-fault c =
    let set = effective-set c.args.sources.now.available.now c.args.start c.requires.place c.in_ok-seen.seen.items c.in_ok-seen.ensures.reached c.in_ok-documents.documents (rw c.deref.ensures.value at c.in_ok-documents.ensures) in
    set-least c.args.sources.now.available.now c.args.start c.in_ok-documents.documents set c.in-Ok.fault (rw c.as_slice.ensures at c.in-Ok.ensures)
