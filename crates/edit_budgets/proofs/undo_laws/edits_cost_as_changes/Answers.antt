use Rattle.edit_budgets.proofs.Costs.{same_cost}
use Rattle.edit_budgets.proofs.undo_laws.edits_cost_as_changes.Goals as goal

pub returns : goal.returns
returns c = same_cost
