use Rattle.xsv_run.proofs.Present.{replies_present}
use Rattle.xsv_run.proofs.laws.documents_are_present.Goals as goal

pub returns : goal.returns
returns c = replies_present
