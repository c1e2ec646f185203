use Rattle.std.proofs.Common.{◌≡◌, ◌<◌, ◌≤◌, length}
use Rattle.attr_uses.specs.Nodes.{find}
use Rattle.attr_uses.proofs.read.entry_under.Given as goal

abbrev pub invariant-loop-levels : goal.invariant-loop-levels
invariant-loop-levels l = record {
  few : l.levels ≤ 32;
  there : l.at < length l.nodes;
  same : find l.nodes l.levels l.at l.rest ≡ find l.nodes l.depth l.top l.name;
}

abbrev pub decreases-loop-levels : goal.decreases-loop-levels
decreases-loop-levels l = l.levels
