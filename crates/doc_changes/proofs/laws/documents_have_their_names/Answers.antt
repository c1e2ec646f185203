use Rattle.doc_changes.proofs.Named.{has_names, name_back}
use Rattle.doc_changes.proofs.laws.documents_have_their_names.Goals as goal

pub returns : goal.returns
returns c = record { names = λ t ns d s. has_names t s.table ns d.forest s.nodes; numbers = λ t n sound l. name_back t sound n l }
