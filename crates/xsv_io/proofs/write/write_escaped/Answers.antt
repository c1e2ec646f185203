use Rattle.std.proofs.Common.{arith, ◌∙◌}
use Rattle.xsv_io.specs.Escaping.{escape}
use Rattle.xsv_io.proofs.Failing.{failed, rose-later}
use Rattle.xsv_io.proofs.Fronts.{front_at}
use Rattle.std.proofs.Math.Seq.{drop-cons}
use Rattle.xsv_io.proofs.write.write_escaped.Goals as goal

pub returns-in_err-write_byte : goal.returns-in_err-write_byte
returns-in_err-write_byte g c =
    let w = c.in_err-write_byte.ensures.written in
    let before = c.loop-byte.invariant in
    rw (← c.as_bytes-bytes.ensures.value) (record {
      written = failed g.W.Sink.taken g.W.Sink.faults g.W.Sink.fault_bound c.args.sink.now c.write_byte.new.sink c.from_residual.result _
          c.from_residual.ensures.0
          (front_at escape _ _ _ c.as_bytes-bytes.result.now c.loop-byte.byte-index _ (drop-cons _ c.loop-byte.byte-index _ c.loop-byte-test.true) before.written w.front)
          (omega (arith, before.later, w.cause.later))
          (rose-later before.later w.cause.failed)
          (w.kept ∙ before.kept);
    })
