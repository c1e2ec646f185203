use Rattle.std.proofs.Common.{Ok, ap, ◌∙◌}
use Rattle.xsv_run.proofs.Items.{item_read, item_holds, none_read, none_pauses, fault_read, memory_ends}
use Rattle.xsv_run.specs.declared.reader.Reader.{Reader}
use Rattle.xsv_run.proofs.reader.Reader.take_next.Goals as goal

pub returns-in-Err-clause-takes : goal.returns-in-Err-clause-takes
returns-in-Err-clause-takes g c = memory_ends c.args.self.now _

pub returns-in-Ok-Ok-Some-clause-takes : goal.returns-in-Ok-Ok-Some-clause-takes
returns-in-Ok-Ok-Some-clause-takes g c =
    let s : Reader = record { listing = c.next_item.new.self; stream = c.answer.new.self } in
    item_read c.args.self.now s _ c.in-Ok-Ok-Some.item c.line_count-line.result _ _ c.answer.result c.next_of.result
    (c.in-Ok-Ok-Some.field-0-is ∙ ap Ok c.in-Ok-Ok-Some.field-0-0-is) c.in-Ok-Ok-Some.ensures.listed c.in-Ok-Ok-Some.ensures.leaves c.line_count-line.ensures
    c.answer.ensures.wanted c.answer.ensures.takes c.next_of.ensures

pub returns-in-Ok-Ok-Some-clause-holds : goal.returns-in-Ok-Ok-Some-clause-holds
returns-in-Ok-Ok-Some-clause-holds g c =
    let s : Reader = record { listing = c.next_item.new.self; stream = c.answer.new.self } in
    item_holds c.args.self.now s _ c.in-Ok-Ok-Some.item c.answer.result c.next_of.result
    (c.in-Ok-Ok-Some.field-0-is ∙ ap Ok c.in-Ok-Ok-Some.field-0-0-is) c.in-Ok-Ok-Some.ensures.leaves c.next_item.ensures.taken c.answer.ensures.open c.next_of.ensures

pub returns-in-Ok-Err-clause-takes : goal.returns-in-Ok-Err-clause-takes
returns-in-Ok-Err-clause-takes g c =
    let s : Reader = record { listing = c.next_item.new.self; stream = c.args.self.now.stream } in
    fault_read c.args.self.now s _ c.in-Ok-Err.fault _ _ c.args.steps.now c.refuse_line.result
    c.in-Ok-Err.field-0-is c.in-Ok-Err.ensures.listed c.refuse_line.ensures.tells.wrote c.refuse_line.ensures.ends

pub returns-in-Ok-Ok-None-clause-takes : goal.returns-in-Ok-Ok-None-clause-takes
returns-in-Ok-Ok-None-clause-takes g c =
    none_read c.args.self.now c.next_item.new.self _ (c.in-Ok-Ok-None.field-0-is ∙ ap Ok c.in-Ok-Ok-None.field-0-0-is) c.in-Ok-Ok-None.ensures.leaves _

pub returns-in-Ok-Ok-None-clause-holds : goal.returns-in-Ok-Ok-None-clause-holds
returns-in-Ok-Ok-None-clause-holds g c =
    none_pauses c.args.self.now c.next_item.new.self _ (c.in-Ok-Ok-None.field-0-is ∙ ap Ok c.in-Ok-Ok-None.field-0-0-is) c.in-Ok-Ok-None.ensures.leaves
    c.in-Ok-Ok-None.ensures.listed c.in-Ok-Ok-None.ensures.drained c.requires
