use Rattle.std.proofs.Common.{refl}
use Rattle.report_text.specs.Words.{type_text}
use Rattle.xsv_io.proofs.Sequence.{written_then, written_short}
use Rattle.report_text.proofs.record.write_spaced_type.Goals as goal

pub returns-in_err-write_text : goal.returns-in_err-write_text
returns-in_err-write_text g c = record {
  written = written_short g.W.Sink.taken g.W.Sink.faults g.W.Sink.fault_bound c.args.sink.now c.write_text.new.sink _ c.from_residual.result _ (type_text c.args.names.now c.args.parts.now c.args.of) _ refl
      c.from_residual.ensures.0 c.in_err-write_text.ensures.written;
}

pub returns : goal.returns
returns g c = record {
  written = written_then g.W.Sink.taken g.W.Sink.faults g.W.Sink.fault_bound c.args.sink.now c.write_text.new.sink c.write_type.new.sink c.write_type.result _ _ _ refl
      c.in_ok-write_text.ensures.written.all c.in_ok-write_text.ensures.written.cause.later c.in_ok-write_text.ensures.written.kept c.write_type.ensures.written;
}
