use Rattle.leaf_trees.proofs.trees.Trees.nth_marked.Goals as goal

pub marked_under-requires : goal.marked_under-requires
marked_under-requires c = let q = rw (← c.self.view_is) at c.requires in (q.1, rw c.as_slice.ensures.value q.2.has, q.3)

pub returns : goal.returns
returns c = λ list t T h. c.marked_under.ensures t (rw c.as_slice.ensures.value (rw (← c.self.view_is) at T).has) h
