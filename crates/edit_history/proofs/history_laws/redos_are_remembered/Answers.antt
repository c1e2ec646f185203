use Rattle.edit_history.proofs.Remembering.{redo_remembered}
use Rattle.edit_history.proofs.history_laws.redos_are_remembered.Goals as goal

pub returns : goal.returns
returns c = redo_remembered
