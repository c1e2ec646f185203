use Rattle.assessment.proofs.Bearers.{bearers-are}
use Rattle.assessment.proofs.id_laws.bearings_are_of_the_entries.Goals as goal

pub returns : goal.returns
returns c = record { entries = bearers-are }
