use Rattle.std.proofs.Common.{◌∷◌, [], ◌++◌, refl}
use Rattle.xsv_io.proofs.Sequence.{written_then, written_short}
use Rattle.generated_stream.specs.Summaries as spec
use Rattle.generated_stream.proofs.summary.write_summary.Goals as goal

pub returns-in_err-write_counts : goal.returns-in_err-write_counts
returns-in_err-write_counts g c =
    let s = c.args.summary.now in
    record {
      written = written_short g.W.Sink.taken g.W.Sink.faults g.W.Sink.fault_bound c.args.sink.now c.write_counts.new.sink c.in_err-write_counts.field-0.0 c.from_residual.result
          (spec.counts_text c.args.lines s.accepted s.refused) (s.end.now ++ 10 ∷ []) _ refl c.from_residual.ensures.0 c.in_err-write_counts.ensures.written;
    }

pub returns : goal.returns
returns g c =
    let s = c.args.summary.now in
    let w = c.in_ok-write_counts.ensures.written in
    record {
      written = written_then g.W.Sink.taken g.W.Sink.faults g.W.Sink.fault_bound c.args.sink.now c.write_counts.new.sink c.write_line.new.sink c.write_line.result
          (spec.counts_text c.args.lines s.accepted s.refused) (s.end.now ++ 10 ∷ []) _ refl w.all w.cause.later w.kept c.write_line.ensures.written;
    }
