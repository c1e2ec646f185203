use Rattle.doc_changes.proofs.Reading.{are_read}
use Rattle.doc_changes.proofs.laws.nodes_are_read.Goals as goal

pub returns : goal.returns
returns c = λ t ns d s. are_read t ns d.forest s.nodes
