use Rattle.simple_types.proofs.ReadLaws.{read_is_valid}
use Rattle.simple_types.proofs.laws.enumerations_are_judged_by_validity.Goals as goal

pub returns : goal.returns
returns c = λ tree base made item read is. (is.0, read_is_valid tree base made item.scope item.text is.0 is.1, is.2)
