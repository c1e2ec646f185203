use Rattle.tree_edits.proofs.Undone.{is_change, edit_fits, edit_undone}
use Rattle.tree_edits.proofs.inverse_laws.undone_edits.Goals as goal

pub returns-clause-edit : goal.returns-clause-edit
returns-clause-edit c = is_change

pub returns-clause-fits : goal.returns-clause-fits
returns-clause-fits c = edit_fits

pub returns-clause-undone : goal.returns-clause-undone
returns-clause-undone c = edit_undone
