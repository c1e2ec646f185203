use Rattle.doc_tree.proofs.Leading.{leads_on}
use Rattle.doc_tree.proofs.laws.changes_lead_on.Goals as goal

pub returns : goal.returns
returns c = leads_on
