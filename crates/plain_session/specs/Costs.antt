-- What edits and the opening of a document cost.
use Rattle.std.specs.Prelude.{ℕ}
use Rattle.tree_rows.specs.Forest.{Document}
use Rattle.tree_edits.specs.declared.edit.Edit.{Edit}
use Rattle.session_model.specs.State.{State}

-- the whole tree is assessed again, and none of that is a step
abbrev pub edit_cost : State → Edit → State → ℕ
edit_cost before edit after = 0

abbrev pub opening_cost : Document → ℕ
opening_cost d = 0
