use Rattle.edit_history.proofs.Logged.{edit_logged}
use Rattle.edit_history.proofs.step_laws.edits_are_logged.Goals as goal

pub returns : goal.returns
returns c = edit_logged
