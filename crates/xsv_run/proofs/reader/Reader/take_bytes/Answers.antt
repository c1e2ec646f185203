use Rattle.std.proofs.Common.{refl, ◌∙◌}
use Rattle.xsv_run.proofs.Going.{fed_on, fed_past, fed_going, fed_counted, pauses_fed}
use Rattle.xsv_run.proofs.Items.{memory_fed}
use Rattle.xsv_run.specs.declared.reader.Reader.{Reader}
use Rattle.xsv_run.proofs.reader.Reader.take_bytes.Goals as goal

pub returns-in-Ok-clause-takes : goal.returns-in-Ok-clause-takes
returns-in-Ok-clause-takes g c =
    let r = c.args.self.now in
    let f : Reader = record { listing = c.feed.new.self; stream = r.stream } in
    fed_on r f c.args.bytes.now (fed_past r.listing f.listing c.args.bytes.now c.requires.going c.in-Ok.ensures.ok) refl c.in-Ok.ensures.listed
    c.take_lines.new.self _ _ c.take_lines.result c.take_lines.ensures.progress

pub returns-in-Ok-clause-pauses : goal.returns-in-Ok-clause-pauses
returns-in-Ok-clause-pauses g c =
    let r = c.args.self.now in
    let f = c.feed.new.self in
    pauses_fed r c.args.bytes.now c.take_lines.new.self c.take_lines.result c.take_lines.ensures.pauses
    (c.take_lines.ensures.counted ∙ fed_counted r.listing f c.args.bytes.now c.requires.going c.in-Ok.ensures.ok)
    (c.take_lines.ensures.finished ∙ fed_going r.listing f c.args.bytes.now c.requires.going c.in-Ok.ensures.ok)

pub returns-in-Err-clause-takes : goal.returns-in-Err-clause-takes
returns-in-Err-clause-takes g c = memory_fed c.args.self.now c.args.bytes.now _
