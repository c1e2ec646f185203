use Rattle.edit_history.proofs.Remembering.{undo_remembered}
use Rattle.edit_history.proofs.history_laws.undos_are_remembered.Goals as goal

pub returns : goal.returns
returns c = undo_remembered
