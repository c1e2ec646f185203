use Rattle.edit_history.proofs.Logged.{undo_logged}
use Rattle.edit_history.proofs.step_laws.undos_are_logged.Goals as goal

pub returns : goal.returns
returns c = undo_logged
