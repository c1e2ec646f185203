use Rattle.assessment_laws.proofs.Ambivalent.{ambivalent-told, told-ambivalent}
use Rattle.assessment_laws.proofs.laws_of_governing.ambivalent_names_are_told.Goals as goal

pub returns : goal.returns
returns c = λ s p name. (ambivalent-told s p name, told-ambivalent s p name)
