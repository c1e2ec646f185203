use Rattle.assessment_laws.proofs.Assessments.{assessment-kept}
use Rattle.assessment_laws.proofs.grown_assessment_laws.the_assessment_keeps_as_names_are_added.Goals as goal

pub returns : goal.returns
returns c = λ s new b f found g sound parts members names h. assessment-kept s new g sound parts members b f found names h
