use Rattle.std.proofs.Common.{◌+◌, ◌-◌, ◌*◌}
use Rattle.doc_nodes.specs.Nodes.{Has, node, depth_by, element_children}
use Rattle.kept_slots.specs.Slots.{at}
use Rattle.kept_targets.specs.Moved.{Adds}
use Rattle.kept_targets.proofs.Adding.{AreLookedUpTo}
use Rattle.kept_targets.proofs.moved.+moved.Given as goal

abbrev pub decreases-add_moved : goal.decreases-add_moved
decreases-add_moved l = 2 * (130 - depth_by (node l.by.now.doc.now l.node)) + 1

abbrev pub decreases-add_children : goal.decreases-add_children
decreases-add_children l = 2 * (130 - depth_by (node l.by.now.doc.now l.parent))

abbrev pub invariant-add_children-loop-place : goal.invariant-add_children-loop-place
invariant-add_children-loop-place l = record {
  done : AreLookedUpTo l.by.set.now.parts l.by.doc.now l.by.state.now.records.slots (at l.keys.signs) l.parent l.moved.items l.place;
  adds : Adds l.by.doc.now l.initial.moved.items l.moved.items (λ m. Has m (element_children l.by.doc.now l.parent));
}
