use Rattle.told.proofs.OutcomeLaws.{outcomes-same}
use Rattle.told.proofs.laws.outcomes_are_one.Goals as goal

pub returns : goal.returns
returns c = record { only = outcomes-same }
