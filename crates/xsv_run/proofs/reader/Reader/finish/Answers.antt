use Rattle.std.proofs.Common.{Ok, Err, refl, ap, ◌∙◌}
use Rattle.item_listing.specs.State.{Reading}
use Rattle.xsv_run.proofs.Going.{ends_last, finished_last}
use Rattle.xsv_run.specs.declared.reader.Reader.{Reader}
use Rattle.xsv_run.proofs.reader.Reader.finish.Goals as goal

pub returns-in-Ok-None-clause-ends : goal.returns-in-Ok-None-clause-ends
returns-in-Ok-None-clause-ends g c =
    let r = c.args.self.now in
    let f : Reader = record { listing = c.finish.new.self; stream = r.stream } in
    finished_last r f (ap (λ (x : Reading). x.past) c.finish.ensures.finished) refl c.finish.ensures.listed
    c.take_lines.new.self c.line_count.result _ _ _ c.finish-in-Ok-None.result (rw c.in-Ok-None.field-0-is at c.in-Ok-None.ensures.progress)
    (rw c.in-Ok-None.field-0-is at c.in-Ok-None.ensures.pauses).waits
    (c.take_lines.ensures.finished ∙ ap (λ (x : Reading). x.finished) c.finish.ensures.finished)
    c.line_count.ensures (c.finish-in-Ok-None.ensures.ends _)

pub returns-in-Ok-Some-clause-ends : goal.returns-in-Ok-Some-clause-ends
returns-in-Ok-Some-clause-ends g c =
    let r = c.args.self.now in
    let f : Reader = record { listing = c.finish.new.self; stream = r.stream } in
    ends_last r f (ap (λ (x : Reading). x.past) c.finish.ensures.finished) refl c.finish.ensures.listed
    _ _ (Ok c.in-Ok-Some.ending) (rw c.in-Ok-Some.field-0-is at c.in-Ok-Some.ensures.progress)

pub returns-in-Err-clause-ends : goal.returns-in-Err-clause-ends
returns-in-Err-clause-ends g c =
    let r = c.args.self.now in
    let f : Reader = record { listing = c.finish.new.self; stream = r.stream } in
    ends_last r f (ap (λ (x : Reading). x.past) c.finish.ensures.finished) refl c.finish.ensures.listed
    _ _ (Err c.in-Err.why) c.in-Err.ensures.progress
