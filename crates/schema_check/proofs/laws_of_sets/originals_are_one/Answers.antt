use Rattle.schema_set.specs.Documents.{available}
use Rattle.schema_check.proofs.BareLaws.{set-originals-same}
use Rattle.schema_check.proofs.SetPhaseLaws.{sets-bare}
use Rattle.schema_check.proofs.laws_of_sets.originals_are_one.Goals as goal

pub returns : goal.returns
returns c = record { only = λ inputs start a b xs ys p q r s. set-originals-same (available inputs) a b xs ys (sets-bare inputs start a b p q) r s }
