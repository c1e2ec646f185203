use Rattle.tree_rows.specs.Forest.{count}
use Rattle.doc_changes.proofs.Spread.{MadeSoFar}
use Rattle.doc_changes.proofs.spreading.new_nodes.Given as goal

abbrev pub invariant-left : goal.invariant-left
invariant-left l = MadeSoFar l.initial.names l.names l.made.items l.fn.siblings l.left

abbrev pub decreases-left : goal.decreases-left
decreases-left l = count l.left
