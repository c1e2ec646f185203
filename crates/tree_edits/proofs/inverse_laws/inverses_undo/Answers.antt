use Rattle.tree_edits.proofs.Inverses.{undone}
use Rattle.tree_edits.proofs.inverse_laws.inverses_undo.Goals as goal

pub returns : goal.returns
returns c = undone
