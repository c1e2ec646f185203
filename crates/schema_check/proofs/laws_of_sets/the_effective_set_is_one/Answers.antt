use Rattle.schema_check.proofs.OneSetLaws.{sets-same}
use Rattle.schema_check.proofs.laws_of_sets.the_effective_set_is_one.Goals as goal

pub returns : goal.returns
returns c = record { only = sets-same }
