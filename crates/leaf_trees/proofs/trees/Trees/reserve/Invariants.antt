use Rattle.std.proofs.Common.{◌≡◌, ◌+◌, ◌-◌, ◌≤◌, length}
use Rattle.leaf_trees.specs.Change.{Grows}
use Rattle.leaf_trees.proofs.trees.Trees.reserve.Given as goal

abbrev pub invariant-loop-self : goal.invariant-loop-self
invariant-loop-self l = record {
  grows : Grows l.initial.self.nodes l.self.nodes;
  balance : length l.self.nodes + l.initial.self.spare ≡ length l.initial.self.nodes + l.self.spare;
  few : length l.self.nodes ≤ length l.initial.self.nodes + (l.slots - l.initial.self.spare);
}

abbrev pub decreases-loop-self : goal.decreases-loop-self
decreases-loop-self l = l.slots - l.self.spare
