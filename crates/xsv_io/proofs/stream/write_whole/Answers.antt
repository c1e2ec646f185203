use Rattle.std.proofs.Common.{arith, ◌∙◌}
use Rattle.std.proofs.KnownBytes.{Appends-trans}
use Rattle.std.proofs.Math.Seq.{take-add}
use Rattle.xsv_io.proofs.Pieces.{from_on}
use Rattle.xsv_io.proofs.stream.write_whole.Goals as goal

pub loop-at-preserved : goal.loop-at-preserved
loop-at-preserved g c = record {
  within = omega (arith, c.in_ok-at.ensures.bound);
  written = rw take-add (Appends-trans _ _ _ _ _ c.loop-at.invariant.written (rw from_on at c.in_ok-at.ensures.bytes));
  later = omega (arith, c.in_ok-at.ensures.cause.later);
  kept = c.in_ok-at.ensures.kept ∙ c.loop-at.invariant.kept;
}
