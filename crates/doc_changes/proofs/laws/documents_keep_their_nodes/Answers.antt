use Rattle.doc_changes.proofs.Named.{stands_grown}
use Rattle.doc_changes.proofs.laws.documents_keep_their_nodes.Goals as goal

pub returns : goal.returns
returns c = stands_grown
