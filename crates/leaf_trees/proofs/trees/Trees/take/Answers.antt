use Rattle.leaf_trees.proofs.FreeSlots.{taken_free}
use Rattle.leaf_trees.proofs.trees.Trees.take.Goals as goal

pub invariant_of-self : goal.invariant_of-self
invariant_of-self c =
    let s = c.self.inside in
    taken_free s.nodes.items s.free s.spare c.unwrap-slot.result c.next_free-self-inside.result _ c.index.result.now c.self.invariant (rw (← c.self.view_is) at c.requires) c.unwrap-slot.ensures c.index.ensures c.next_free-self-inside.ensures
