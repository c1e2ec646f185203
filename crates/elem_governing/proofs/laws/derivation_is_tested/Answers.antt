use Rattle.elem_governing.proofs.DerivedLaws.{derives-told}
use Rattle.elem_governing.proofs.laws.derivation_is_tested.Goals as goal

pub returns : goal.returns
returns c = record { told = derives-told }
