use Rattle.std.proofs.Common.{◌≡◌, ◌-◌}
use Rattle.doc_nodes.specs.Nodes.{Has, node, depth_by}
use Rattle.kept_targets.specs.Moved.{Adds}
use Rattle.kept_targets.proofs.Adding.{AreBelowUpTo}
use Rattle.kept_targets.proofs.moved.+add_below.Given as goal

abbrev pub decreases-add_below : goal.decreases-add_below
decreases-add_below l = 130 - depth_by (node l.doc.now l.node)

abbrev pub invariant-loop-place : goal.invariant-loop-place
invariant-loop-place l = record {
  own : Has l.node l.numbers.items;
  done : AreBelowUpTo l.doc l.node l.numbers.items l.place;
  adds : Adds l.doc l.initial.numbers.items l.numbers.items (λ m. m ≡ l.node);
}
