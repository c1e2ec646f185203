use Rattle.doc_nodes.specs.Nodes.{Has, element_children}
use Rattle.kept_slots.specs.Slots.{at}
use Rattle.kept_targets.specs.Moved.{Adds}
use Rattle.kept_targets.proofs.Marking.{AreMarkedUpTo}
use Rattle.kept_targets.proofs.moved.add_marked.Given as goal

abbrev pub invariant-loop-number : goal.invariant-loop-number
invariant-loop-number l = record {
  done : AreMarkedUpTo l.by.set.now l.by.doc.now l.by.state.now (at l.keys.signs) l.parent l.but l.moved.items l.number;
  adds : Adds l.by.doc.now l.initial.moved.items l.moved.items (λ m. Has m (element_children l.by.doc.now l.parent));
}
