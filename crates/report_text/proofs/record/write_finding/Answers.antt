use Rattle.std.proofs.Common.{refl}
use Rattle.report_text.specs.Lines.{known_text}
use Rattle.xsv_io.proofs.Sequence.{written_then, written_short}
use Rattle.report_text.proofs.record.write_finding.Goals as goal

pub returns-in_err-write_typed : goal.returns-in_err-write_typed
returns-in_err-write_typed g c = record {
  written = written_short g.W.Sink.taken g.W.Sink.faults g.W.Sink.fault_bound c.args.sink.now c.write_typed.new.sink _ c.from_residual.result _ (known_text c.args.finding.now.validity c.args.finding.now.attempted c.args.finding.now.source c.args.finding.now.codes.now) _ refl
      c.from_residual.ensures.0 c.in_err-write_typed.ensures.written;
}

pub returns : goal.returns
returns g c = record {
  written = written_then g.W.Sink.taken g.W.Sink.faults g.W.Sink.fault_bound c.args.sink.now c.write_typed.new.sink c.write_known.new.sink c.write_known.result _ _ _ refl
      c.in_ok-write_typed.ensures.written.all c.in_ok-write_typed.ensures.written.cause.later c.in_ok-write_typed.ensures.written.kept c.write_known.ensures.written;
}
