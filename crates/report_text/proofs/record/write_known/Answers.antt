use Rattle.std.proofs.Common.{ap, refl}
use Rattle.report_text.specs.Words as words
use Rattle.report_text.proofs.Lines.{known_line}
use Rattle.xsv_io.proofs.Sequence.{written_then, written_short}
use Rattle.report_text.proofs.record.write_known.Goals as goal

pub returns-in_err-write_parts : goal.returns-in_err-write_parts
returns-in_err-write_parts g c = record {
  written = written_short g.W.Sink.taken g.W.Sink.faults g.W.Sink.fault_bound c.args.sink.now c.write_parts.new.sink _ c.from_residual.result _ _ _
      (known_line _ _ _ _ _ _ (words.codes_text c.args.found.now) _ c.validity_word-validity.ensures c.attempted_word-attempted.ensures c.source_word-source.ensures refl)
      c.from_residual.ensures.0 c.in_err-write_parts.ensures.written;
}

pub returns : goal.returns
returns g c = record {
  written = written_then g.W.Sink.taken g.W.Sink.faults g.W.Sink.fault_bound c.args.sink.now c.write_parts.new.sink c.write_codes.new.sink c.write_codes.result _ _ _
      (known_line _ _ _ _ _ _ _ _ c.validity_word-validity.ensures c.attempted_word-attempted.ensures c.source_word-source.ensures (ap words.codes_text c.as_slice.ensures))
      c.in_ok-write_parts.ensures.written.all c.in_ok-write_parts.ensures.written.cause.later c.in_ok-write_parts.ensures.written.kept c.write_codes.ensures.written;
}
