use Rattle.model_summaries.proofs.Running.{rows_are}
use Rattle.model_summaries.proofs.laws.rows_are_runs.Goals as goal

pub returns : goal.returns
returns c = rows_are
