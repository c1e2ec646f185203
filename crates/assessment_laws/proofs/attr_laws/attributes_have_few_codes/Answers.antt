use Rattle.assessment_laws.proofs.FewFound.{attrs-few}
use Rattle.assessment_laws.proofs.attr_laws.attributes_have_few_codes.Goals as goal

pub returns : goal.returns
returns c = record { few = attrs-few }
