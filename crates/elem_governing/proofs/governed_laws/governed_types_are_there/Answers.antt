use Rattle.elem_governing.proofs.There.{root-there, child-there}
use Rattle.elem_governing.proofs.governed_laws.governed_types_are_there.Goals as goal

pub returns-clause-root : goal.returns-clause-root
returns-clause-root c = root-there

pub returns-clause-child : goal.returns-clause-child
returns-clause-child c = child-there
