use Rattle.xsv_run.proofs.Complete.{one_outcome, one_output}
use Rattle.xsv_run.proofs.laws.outputs_are_one.Goals as goal

pub returns : goal.returns
returns c = record { only = one_output c.what_is_found_is_the_only_one.ensures.only (one_outcome c.outcomes_are_one.ensures.only) c.answers_are_one.ensures.only }
