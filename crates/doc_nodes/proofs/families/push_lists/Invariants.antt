use Rattle.doc_nodes.proofs.Hanging.{OwnSoFar}
use Rattle.doc_nodes.proofs.families.push_lists.Given as goal

abbrev pub invariant-loop-item : goal.invariant-loop-item
invariant-loop-item l = OwnSoFar l.initial.lists l.lists l.items l.item-index l.hung.items
