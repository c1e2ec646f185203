use Rattle.std.specs.Prelude.{codes}
use Rattle.std.proofs.Common.{◌++◌, sym, append_assoc}
use Rattle.report_text.specs.Words.{name_text, type_text}
use Rattle.xsv_io.proofs.Sequence.{written_then, written_short}
use Rattle.report_text.proofs.record.write_typed.Goals as goal

pub returns-in_err-write_name : goal.returns-in_err-write_name
returns-in_err-write_name g c = record {
  written = written_short g.W.Sink.taken g.W.Sink.faults g.W.Sink.fault_bound c.args.sink.now c.write_name.new.sink _ c.from_residual.result _ (codes " " ++ type_text c.args.names.now c.args.parts.now c.args.of) _ (sym (append_assoc (name_text c.args.names.now c.args.name) (codes " ") (type_text c.args.names.now c.args.parts.now c.args.of)))
      c.from_residual.ensures.0 c.in_err-write_name.ensures.written;
}

pub returns : goal.returns
returns g c = record {
  written = written_then g.W.Sink.taken g.W.Sink.faults g.W.Sink.fault_bound c.args.sink.now c.write_name.new.sink c.write_spaced_type.new.sink c.write_spaced_type.result _ _ _ (sym (append_assoc (name_text c.args.names.now c.args.name) (codes " ") (type_text c.args.names.now c.args.parts.now c.args.of)))
      c.in_ok-write_name.ensures.written.all c.in_ok-write_name.ensures.written.cause.later c.in_ok-write_name.ensures.written.kept c.write_spaced_type.ensures.written;
}
