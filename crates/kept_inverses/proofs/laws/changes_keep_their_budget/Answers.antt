use Rattle.kept_inverses.proofs.Budget.{change-budgeted}
use Rattle.kept_inverses.proofs.laws.changes_keep_their_budget.Goals as goal

pub returns : goal.returns
returns c = λ set old new k d edit change found first last right z of can w is takes. change-budgeted set old k d right z new edit change of can w found is first last takes
