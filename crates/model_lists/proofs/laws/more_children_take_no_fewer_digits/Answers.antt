use Rattle.model_lists.proofs.Digits.{more_digits}
use Rattle.model_lists.proofs.laws.more_children_take_no_fewer_digits.Goals as goal

pub returns : goal.returns
returns c = more_digits
