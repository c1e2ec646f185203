use Rattle.edit_history.proofs.Logged.{log_on}
use Rattle.edit_history.proofs.step_laws.logs_lead_on.Goals as goal

pub returns : goal.returns
returns c = log_on
