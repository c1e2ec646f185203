use Rattle.std.proofs.Common.{◌≡◌, ◌≤◌, ◌+◌, length}
use Rattle.std.specs.Prelude.{codes}
use Rattle.generated_stream.specs.Summaries as spec
use Rattle.generated_stream.proofs.summary.summary_of.Given as goal

abbrev pub invariant-lines : goal.invariant-lines
invariant-lines l = record {
  accepted_is : spec.count_of (codes "ok ") (spec.lines l.fn.output) ≡ l.tally.accepted + spec.count_of (codes "ok ") (spec.lines l.left);
  refused_is : spec.count_of (codes "no ") (spec.lines l.fn.output) ≡ l.tally.refused + spec.count_of (codes "no ") (spec.lines l.left);
  end_is : spec.end_line l.fn.output ≡ spec.end_with (spec.end_of l.tally) (spec.lines l.left);
  few_accepted : l.tally.accepted + length l.left ≤ length l.fn.output;
  few_refused : l.tally.refused + length l.left ≤ length l.fn.output;
}

abbrev pub decreases-lines : goal.decreases-lines
decreases-lines l = length l.left
