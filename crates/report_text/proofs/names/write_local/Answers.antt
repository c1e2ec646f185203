use Rattle.std.proofs.Common.{true≢false, subst}
use Rattle.xsv_io.specs.Written.{Written}
use Rattle.report_text.proofs.Lines.{named_text}
use Rattle.report_text.proofs.names.write_local.Goals as goal

pub returns-in-Some : goal.returns-in-Some
returns-in-Some g c = record {
  written = subst (Written g.W.Sink.taken g.W.Sink.faults g.W.Sink.fault_bound c.args.sink.now c.write_parts-in-Some.new.sink c.write_parts-in-Some.result)
      (named_text c.args.names.now c.args.name c.ns.result c.in-Some.space.now c.args.local.now c.ns.ensures.value c.in-Some.ensures.text (λ e. true≢false (c.in-Some.ensures.absent.1 e)))
      c.write_parts-in-Some.ensures.written;
}
