use Rattle.assessment_laws.proofs.There.{attrs-there}
use Rattle.assessment_laws.proofs.attr_laws.attribute_records_are_there.Goals as goal

pub returns : goal.returns
returns c = record { there = λ names t types of scope attrs assessed named set within are. attrs-there names t named set.ranked set.simple of scope attrs within assessed are }
