use Rattle.tree_building.proofs.Trees.{document_tree}
use Rattle.tree_building.proofs.laws.documents_are_trees.Goals as goal

pub returns : goal.returns
returns c = λ scope its d e. document_tree scope its d e
