use Rattle.xsv_run.proofs.Authors.{plain_so}
use Rattle.xsv_run.proofs.laws.accepted_turns_stand_for_themselves.Goals as goal

pub returns : goal.returns
returns c = plain_so
