use Rattle.doc_nodes.proofs.Hanging.{DroppedSoFar}
use Rattle.doc_nodes.proofs.families.drop_lists.Given as goal

abbrev pub invariant-loop-one : goal.invariant-loop-one
invariant-loop-one l = DroppedSoFar l.initial.lists l.lists l.hung l.one-index
