use Rattle.std.specs.Fmt.{decimal}
use Rattle.std.proofs.Common.{subst}
use Rattle.xsv_io.specs.Written.{Written}
use Rattle.report_text.proofs.Lines.{place_parts}
use Rattle.report_text.proofs.names.write_place.Goals as goal

pub returns : goal.returns
returns g c = record {
  written = subst (Written g.W.Sink.taken g.W.Sink.faults g.W.Sink.fault_bound c.args.sink.now c.write_parts.new.sink c.write_parts.result) (place_parts (decimal c.args.at.document) (decimal c.args.at.item)) c.write_parts.ensures.written;
}
