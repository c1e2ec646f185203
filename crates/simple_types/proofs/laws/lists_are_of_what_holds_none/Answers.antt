use Rattle.simple_types.proofs.HoldingLaws.{lists-of-atoms}
use Rattle.simple_types.proofs.laws.lists_are_of_what_holds_none.Goals as goal

pub returns : goal.returns
returns c = lists-of-atoms
