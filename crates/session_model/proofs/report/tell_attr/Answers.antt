use Rattle.std.proofs.Common.{ap, ◌∙◌, sym, subst}
use Rattle.xsv_io.specs.Written.{Written}
use Rattle.compiled_schema.specs.Usable.{set_of}
use Rattle.session_model.specs.Reports.{attr_line_of}
use Rattle.assess_records.specs.declared.record.AttrRecord.{AttrRecord}
use Rattle.session_model.specs.inside.Telling.{is_told}
use Rattle.session_model.proofs.Telling.{told-yes, told-no, nothing-written}
use Rattle.session_model.proofs.report.tell_attr.Goals as goal

pub returns-then-is_told : goal.returns-then-is_told
returns-then-is_told g c = record {
  written = subst (Written g.W.Sink.taken g.W.Sink.faults g.W.Sink.fault_bound c.args.sink.now c.write_attr.new.sink c.write_attr.result)
      (told-yes c.args.left (attr_line_of (set_of c.args.set.now) c.args.node c.args.record.now) (sym (c.is_told.ensures ∙ ap (λ (attr : AttrRecord). is_told c.args.left attr.codes) c.get.ensures) ∙ c.if-is_told.true)) c.write_attr.ensures.written;
}

pub returns-else-is_told : goal.returns-else-is_told
returns-else-is_told g c = record {
  written = subst (Written g.W.Sink.taken g.W.Sink.faults g.W.Sink.fault_bound c.args.sink.now c.args.sink.now _)
      (told-no c.args.left (attr_line_of (set_of c.args.set.now) c.args.node c.args.record.now) (sym (c.is_told.ensures ∙ ap (λ (attr : AttrRecord). is_told c.args.left attr.codes) c.get.ensures) ∙ c.if-is_told.false))
      (nothing-written g.W.Sink.taken g.W.Sink.faults g.W.Sink.fault_bound c.args.sink.now);
}
