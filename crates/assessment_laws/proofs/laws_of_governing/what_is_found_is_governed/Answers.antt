use Rattle.assessment_laws.proofs.Governed.{assessed-governed}
use Rattle.assessment_laws.proofs.laws_of_governing.what_is_found_is_governed.Goals as goal

pub returns : goal.returns
returns c = assessed-governed
