use Rattle.std.proofs.Common.{length}
use Rattle.doc_nodes.proofs.Unrolling.{PutSoFar}
use Rattle.doc_nodes.proofs.families.put_slots.Given as goal

abbrev pub invariant-left : goal.invariant-left
invariant-left l = PutSoFar l.initial.slots.slots l.slots.slots l.slots.room l.fn.parent l.fn.depth l.fn.children.items l.fn.hung l.left.items l.n

abbrev pub decreases-left : goal.decreases-left
decreases-left l = length l.left.items
