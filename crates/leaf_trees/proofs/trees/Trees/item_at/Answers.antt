use Rattle.leaf_trees.proofs.trees.Trees.item_at.Goals as goal

pub item_under-requires : goal.item_under-requires
item_under-requires c = let q = rw (← c.self.view_is) at c.requires in (q.1, rw c.as_slice.ensures.value q.2.has, q.3)

pub returns : goal.returns
returns c = λ list t T h. c.item_under.ensures t (rw c.as_slice.ensures.value (rw (← c.self.view_is) at T).has) h
