use Rattle.tree_edits.proofs.Naming.{block_named}
use Rattle.tree_edits.proofs.block_laws.blocks_are_named.Goals as goal

pub returns : goal.returns
returns c = λ scope its one. block_named scope its one
