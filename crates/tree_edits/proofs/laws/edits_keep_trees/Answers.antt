use Rattle.tree_edits.proofs.Testing.{edited_keeps}
use Rattle.tree_edits.proofs.laws.edits_keep_trees.Goals as goal

pub returns : goal.returns
returns c = λ d edit e tree is. edited_keeps d edit e tree is
