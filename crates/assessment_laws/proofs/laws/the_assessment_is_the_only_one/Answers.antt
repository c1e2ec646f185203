use Rattle.simple_types.proofs.Valid.{one-outcome}
use Rattle.assessment_laws.proofs.Only.{only-assessment}
use Rattle.assessment_laws.proofs.laws.the_assessment_is_the_only_one.Goals as goal

pub returns : goal.returns
returns c = record { only = λ s b f x y sound named p q. only-assessment s b (one-outcome s.parts) sound named f x y p q }
