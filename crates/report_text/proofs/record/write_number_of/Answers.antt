use Rattle.std.specs.Fmt.{decimal}
use Rattle.std.proofs.Common.{subst}
use Rattle.xsv_io.specs.Written.{Written}
use Rattle.report_text.proofs.Lines.{number_parts}
use Rattle.report_text.proofs.record.write_number_of.Goals as goal

pub returns : goal.returns
returns g c = record {
  written = subst (Written g.W.Sink.taken g.W.Sink.faults g.W.Sink.fault_bound c.args.sink.now c.write_parts.new.sink c.write_parts.result) (number_parts c.args.letter.now (decimal c.args.number)) c.write_parts.ensures.written;
}
