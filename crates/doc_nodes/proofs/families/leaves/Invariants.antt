use Rattle.std.proofs.Common.{◌≡◌, take, map}
use Rattle.doc_nodes.specs.Families.{leaf_of}
use Rattle.doc_nodes.proofs.families.leaves.Given as goal

abbrev pub invariant-loop-child : goal.invariant-loop-child
invariant-loop-child l = l.made.items ≡ take l.child-index (map leaf_of l.children)
