use Rattle.std.proofs.Common.{Ok, Err, arith, refl, ◌∙◌}
use Rattle.xsv_run.proofs.Going.{stays_on, goes_further, ends_further}
use Rattle.xsv_run.proofs.reader.Reader.take_lines.Goals as goal

pub lines-init : goal.lines-init
lines-init g c = record {
  on = stays_on c.args.self.now _;
  is_open = c.requires;
  counted = refl;
  finished = refl;
  later = omega arith;
  kept = refl;
  steps = omega arith;
}

pub lines-preserved : goal.lines-preserved
lines-preserved g c = record {
  on = goes_further c.args.self.now c.lines.self c.take_next.new.self _ _ _ c.lines.invariant.on (rw c.in-Ok-Goes.field-0-is at c.in-Ok-Goes.ensures.takes);
  is_open = (rw c.in-Ok-Goes.field-0-is at c.in-Ok-Goes.ensures.holds).0;
  counted = c.take_next.ensures.counted ∙ c.lines.invariant.counted;
  finished = c.take_next.ensures.finished ∙ c.lines.invariant.finished;
  later = omega (arith, c.take_next.ensures.writes.later, c.lines.invariant.later);
  kept = c.take_next.ensures.writes.kept ∙ c.lines.invariant.kept;
  steps = omega (arith, c.take_next.ensures.later, c.lines.invariant.steps);
}

pub returns-in-Ok-Waits-clause-progress : goal.returns-in-Ok-Waits-clause-progress
returns-in-Ok-Waits-clause-progress g c =
    goes_further c.args.self.now c.lines.self c.take_next.new.self _ _ _ c.lines.invariant.on (rw c.in-Ok-Waits.field-0-is at c.in-Ok-Waits.ensures.takes)

pub returns-in-Ok-Waits-clause-pauses : goal.returns-in-Ok-Waits-clause-pauses
returns-in-Ok-Waits-clause-pauses g c = rw c.in-Ok-Waits.field-0-is at c.in-Ok-Waits.ensures.holds

pub returns-in-Ok-Ends-clause-progress : goal.returns-in-Ok-Ends-clause-progress
returns-in-Ok-Ends-clause-progress g c =
    ends_further c.args.self.now c.lines.self _ _ _ (Ok c.in-Ok-Ends.ending) c.lines.invariant.on (rw c.in-Ok-Ends.field-0-is at c.in-Ok-Ends.ensures.takes)

pub returns-in-Err-clause-progress : goal.returns-in-Err-clause-progress
returns-in-Err-clause-progress g c = ends_further c.args.self.now c.lines.self _ _ _ (Err c.in-Err.why) c.lines.invariant.on c.in-Err.ensures.takes
