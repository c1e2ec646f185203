use Rattle.std.proofs.Common.{refl, true≢false, subst}
use Rattle.xsv_io.specs.Written.{Written}
use Rattle.kept_next.proofs.LineSymbols.{absent_name, spaced_name}
use Rattle.kept_next.proofs.lines.write_name.Goals as goal

pub returns-in-None : goal.returns-in-None
returns-in-None g c = record {
  written = subst (Written g.W.Sink.taken g.W.Sink.faults g.W.Sink.fault_bound c.args.sink.now c.write_parts.new.sink c.write_parts.result)
      (absent_name c.args.names.now c.args.end.now c.args.name c.ns.result c.local-local.result.now c.local-local.ensures.text c.ns.ensures.value (c.in-None.ensures.absent.0 refl))
      c.write_parts.ensures.written;
}

pub returns-in-Some : goal.returns-in-Some
returns-in-Some g c = record {
  written = subst (Written g.W.Sink.taken g.W.Sink.faults g.W.Sink.fault_bound c.args.sink.now c.write_parts-in-Some.new.sink c.write_parts-in-Some.result)
      (spaced_name c.args.names.now c.args.end.now c.args.name c.ns.result c.in-Some.space.now c.local-local.result.now c.local-local.ensures.text c.ns.ensures.value c.in-Some.ensures.text (λ e. true≢false (c.in-Some.ensures.absent.1 e)))
      c.write_parts-in-Some.ensures.written;
}
