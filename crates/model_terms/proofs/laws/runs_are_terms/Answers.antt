use Rattle.model_terms.proofs.Runs.{runs-are}
use Rattle.model_terms.proofs.laws.runs_are_terms.Goals as goal

pub returns : goal.returns
returns c = runs-are
