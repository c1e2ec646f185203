use Rattle.edit_history.proofs.Logged.{redo_logged}
use Rattle.edit_history.proofs.step_laws.redos_are_logged.Goals as goal

pub returns : goal.returns
returns c = redo_logged
