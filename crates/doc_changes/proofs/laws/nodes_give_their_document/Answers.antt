use Rattle.doc_changes.proofs.Levels.{document_is}
use Rattle.doc_changes.proofs.laws.nodes_give_their_document.Goals as goal

pub returns : goal.returns
returns c = document_is
