use Rattle.assessment_laws.proofs.Terms.{terms-are}
use Rattle.assessment_laws.proofs.laws.terms_are_determined.Goals as goal

pub returns : goal.returns
returns c = record { terms = terms-are }
