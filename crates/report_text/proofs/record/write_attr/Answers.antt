use Rattle.std.specs.Prelude.{codes}
use Rattle.std.specs.Fmt.{decimal}
use Rattle.std.proofs.Common.{◌++◌, ap}
use Rattle.report_text.proofs.Lines.{same_text}
use Rattle.xsv_io.proofs.Sequence.{written_then, written_short}
use Rattle.report_text.proofs.record.write_attr.Goals as goal

pub returns-in_err-write_number_of : goal.returns-in_err-write_number_of
returns-in_err-write_number_of g c = record {
  written = written_short g.W.Sink.taken g.W.Sink.faults g.W.Sink.fault_bound c.args.sink.now c.write_number_of.new.sink _ c.from_residual.result _ _ _
      (ap (λ l. codes "a " ++ decimal c.args.number ++ codes " " ++ l)
      (same_text c.args.names.now c.args.parts.now _ _ _ _ _ _ _ _ _ _ _ _ c.of_attr-finding.ensures.name c.of_attr-finding.ensures.of c.of_attr-finding.ensures.validity c.of_attr-finding.ensures.attempted c.of_attr-finding.ensures.source c.of_attr-finding.ensures.found))
      c.from_residual.ensures.0 c.in_err-write_number_of.ensures.written;
}

pub returns : goal.returns
returns g c = record {
  written = written_then g.W.Sink.taken g.W.Sink.faults g.W.Sink.fault_bound c.args.sink.now c.write_number_of.new.sink c.write_finding.new.sink c.write_finding.result _ _ _
      (ap (λ l. codes "a " ++ decimal c.args.number ++ codes " " ++ l)
      (same_text c.args.names.now c.args.parts.now _ _ _ _ _ _ _ _ _ _ _ _ c.of_attr-finding.ensures.name c.of_attr-finding.ensures.of c.of_attr-finding.ensures.validity c.of_attr-finding.ensures.attempted c.of_attr-finding.ensures.source c.of_attr-finding.ensures.found))
      c.in_ok-write_number_of.ensures.written.all c.in_ok-write_number_of.ensures.written.cause.later c.in_ok-write_number_of.ensures.written.kept c.write_finding.ensures.written;
}
