use Rattle.std.proofs.Common.{arith, ◌∙◌}
use Rattle.xsv_io.specs.Parts.{part_text}
use Rattle.xsv_io.proofs.Failing.{failed, rose-later}
use Rattle.xsv_io.proofs.Fronts.{front_at}
use Rattle.std.proofs.Math.Seq.{drop-cons}
use Rattle.xsv_io.proofs.write.write_parts.Goals as goal

pub returns-in_err-write_part : goal.returns-in_err-write_part
returns-in_err-write_part g c =
    let w = c.in_err-write_part.ensures.written in
    let before = c.loop-part.invariant in
    record {
      written = failed g.W.Sink.taken g.W.Sink.faults g.W.Sink.fault_bound c.args.sink.now c.write_part.new.sink c.from_residual.result _
          c.from_residual.ensures.0
          (front_at part_text _ _ _ c.args.parts.now c.loop-part.part-index _ (drop-cons _ c.loop-part.part-index _ c.loop-part-test.true) before.written w.front)
          (omega (arith, before.later, w.cause.later))
          (rose-later before.later w.cause.failed)
          (w.kept ∙ before.kept);
    }
