use Rattle.assessment_laws.proofs.Governed.{governings-same}
use Rattle.assessment_laws.proofs.laws_of_governing.governings_are_determined.Goals as goal

pub returns : goal.returns
returns c = λ s f x y a b n h. governings-same s f x y a b n h
