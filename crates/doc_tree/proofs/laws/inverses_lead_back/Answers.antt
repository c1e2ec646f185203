use Rattle.doc_tree.proofs.Leading.{leads_back, edit_leads_back}
use Rattle.doc_tree.proofs.laws.inverses_lead_back.Goals as goal

pub returns-clause-changed : goal.returns-clause-changed
returns-clause-changed c = leads_back

pub returns-clause-edited : goal.returns-clause-edited
returns-clause-edited c = edit_leads_back
