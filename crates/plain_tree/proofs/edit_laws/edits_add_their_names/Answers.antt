use Rattle.plain_tree.proofs.Edited.{table_after}
use Rattle.plain_tree.proofs.edit_laws.edits_add_their_names.Goals as goal

pub returns : goal.returns
returns c = table_after
