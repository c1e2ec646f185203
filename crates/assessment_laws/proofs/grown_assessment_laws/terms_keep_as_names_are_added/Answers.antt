use Rattle.assessment_laws.proofs.GrownTerms.{terms-kept}
use Rattle.assessment_laws.proofs.grown_assessment_laws.terms_keep_as_names_are_added.Goals as goal

pub returns : goal.returns
returns c = λ s new particle children stuck terms g named all h. terms-kept s new g named particle children stuck terms all h
