use Rattle.std.proofs.Common.{◌∷◌, [], refl}
use Rattle.xsv_io.proofs.Sequence.{written_then, written_short}
use Rattle.generated_stream.proofs.summary.write_line.Goals as goal

pub returns-in_err-write_whole : goal.returns-in_err-write_whole
returns-in_err-write_whole g c =
    let w = c.in_err-write_whole.ensures in
    record {
      written = written_short g.W.Sink.taken g.W.Sink.faults g.W.Sink.fault_bound c.args.sink.now c.write_whole.new.sink c.in_err-write_whole.field-0.0 c.from_residual.result
          c.args.line.now (10 ∷ []) _ refl c.from_residual.ensures.0 (record { all = tt; front = w.err; cause = w.cause; kept = w.kept });
    }

pub returns : goal.returns
returns g c =
    let w = c.in_ok-write_whole.ensures in
    record {
      written = written_then g.W.Sink.taken g.W.Sink.faults g.W.Sink.fault_bound c.args.sink.now c.write_whole.new.sink c.write_text.new.sink c.write_text.result
          c.args.line.now (10 ∷ []) _ refl w.ok w.cause.later w.kept c.write_text.ensures.written;
    }
