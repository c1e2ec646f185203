use Rattle.edit_budgets.proofs.Room.{list-room, list-more}
use Rattle.edit_budgets.proofs.laws.lists_keep_their_budget.Goals as goal

pub returns : goal.returns
returns c = record { room = list-room; more = list-more }
