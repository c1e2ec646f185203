use Rattle.elem_assess.proofs.SimpleTrees.{type-tree-simple}
use Rattle.elem_assess.proofs.content_laws.simple_types_are_simple_trees.Goals as goal

pub returns : goal.returns
returns c = record { simple = type-tree-simple }
