use Rattle.kept_inverses.proofs.InverseBudget.{inverse-budgeted}
use Rattle.kept_inverses.proofs.laws.inverses_keep_their_budget.Goals as goal

pub returns : goal.returns
returns c = λ s old new k d change own found first last right z means fits stands is takes. inverse-budgeted s old k d right z new change own means fits stands found is first last takes
