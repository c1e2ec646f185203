-- What edits, changes and the opening of a document cost.
use Rattle.std.specs.Prelude.{ℕ}
use Rattle.tree_rows.specs.Forest.{Document}
use Rattle.tree_edits.specs.declared.edit.Edit.{Edit}
use Rattle.session_model.specs.State.{State}
use Rattle.edit_budgets.specs.Budget.{edit_budget, opening_budget}
use Rattle.tree_edits.specs.Inverses.{Change}
use Rattle.edit_budgets.specs.UndoBudget.{change_budget}

-- by what is found before and after it
abbrev pub edit_cost : State → Edit → State → ℕ
edit_cost before edit after = edit_budget after.set before.document before.found after.document after.found edit

-- the same of a change that undoes another
abbrev pub change_cost : State → Change → State → ℕ
change_cost before c after = change_budget after.set before.document before.found after.document after.found c

abbrev pub opening_cost : Document → ℕ
opening_cost d = opening_budget d
