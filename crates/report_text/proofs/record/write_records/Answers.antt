use Rattle.std.proofs.Common.{refl}
use Rattle.report_text.specs.Lines.{attr_lines}
use Rattle.xsv_io.proofs.Sequence.{written_then, written_short}
use Rattle.report_text.proofs.record.write_records.Goals as goal

pub returns-in_err-write_record : goal.returns-in_err-write_record
returns-in_err-write_record g c = record {
  written = written_short g.W.Sink.taken g.W.Sink.faults g.W.Sink.fault_bound c.args.sink.now c.write_record.new.sink _ c.from_residual.result _ (attr_lines c.args.names.now c.args.parts.now c.args.number c.args.records.attrs.now) _ refl
      c.from_residual.ensures.0 c.in_err-write_record.ensures.written;
}

pub returns : goal.returns
returns g c = record {
  written = written_then g.W.Sink.taken g.W.Sink.faults g.W.Sink.fault_bound c.args.sink.now c.write_record.new.sink c.write_attrs.new.sink c.write_attrs.result _ _ _ refl
      c.in_ok-write_record.ensures.written.all c.in_ok-write_record.ensures.written.cause.later c.in_ok-write_record.ensures.written.kept c.write_attrs.ensures.written;
}
