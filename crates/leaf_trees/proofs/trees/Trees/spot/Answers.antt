use Rattle.leaf_trees.proofs.trees.Trees.spot.Goals as goal

pub spot_of-requires : goal.spot_of-requires
spot_of-requires c = rw c.as_slice.ensures.value (rw (← c.self.view_is) at c.requires)

pub returns : goal.returns
returns c = λ list top k t T A. c.spot_of.ensures list top k t (rw c.as_slice.ensures.value (rw (← c.self.view_is) at T)) A
