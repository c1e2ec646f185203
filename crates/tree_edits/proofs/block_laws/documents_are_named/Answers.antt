use Rattle.tree_edits.proofs.Naming.{document_named}
use Rattle.tree_edits.proofs.block_laws.documents_are_named.Goals as goal

pub returns : goal.returns
returns c = λ scope its d e. document_named scope its d e
