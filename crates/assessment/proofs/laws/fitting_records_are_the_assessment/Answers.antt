use Rattle.assessment.proofs.Fitting.{assessment}
use Rattle.assessment.proofs.laws.fitting_records_are_the_assessment.Goals as goal

pub returns : goal.returns
returns c = record { fitting = assessment }
