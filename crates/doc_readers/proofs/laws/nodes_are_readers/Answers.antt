use Rattle.doc_changes.proofs.Reading.{are_read}
use Rattle.doc_readers.proofs.Reading.{readers_are}
use Rattle.doc_readers.proofs.laws.nodes_are_readers.Goals as goal

pub returns : goal.returns
returns c = λ t ns f s. readers_are t ns f (are_read t ns f s)
