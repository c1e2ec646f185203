use Rattle.leaf_trees.proofs.FreeSlots.{give_fits, given_free}
use Rattle.leaf_trees.proofs.trees.Trees.give.Goals as goal

pub overflow_add-self : goal.overflow_add-self
overflow_add-self c = let s = c.self.inside in record { fits = give_fits s.nodes.items s.free s.spare c.args.slot c.self.invariant (rw (← c.self.view_is) at c.requires) }

pub invariant_of-self : goal.invariant_of-self
invariant_of-self c = let s = c.self.inside in given_free s.nodes.items s.free s.spare c.args.slot c.free.result c.self.invariant (rw (← c.self.view_is) at c.requires) c.free.ensures
