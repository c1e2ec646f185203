use Rattle.std.proofs.Common.{suc, ◌-◌, ◌≤◌, length}
use Rattle.model_lists.specs.Inside.{AreShaped, GrowTo}
use Rattle.model_lists.proofs.rows.grow.Given as goal

abbrev pub invariant-more : goal.invariant-more
invariant-more l = record {
  shaped : AreShaped l.rows.items;
  grown : GrowTo l.fn.rows.items l.rows.items;
  more : length l.fn.rows.items ≤ length l.rows.items;
}

abbrev pub decreases-more : goal.decreases-more
decreases-more l = suc l.dead - length l.rows.items
