use Rattle.assessment_laws.proofs.Values.{values-same}
use Rattle.assessment_laws.proofs.value_laws.values_do_not_go_by_counts.Goals as goal

pub returns : goal.returns
returns c = λ names t g a b x y sound named same h k. values-same a b same names t g sound named x y h k
