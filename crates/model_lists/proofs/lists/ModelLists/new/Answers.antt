use Rattle.std.proofs.Common.{ap}
use Rattle.child_trees.specs.Lists.{get}
use Rattle.model_lists.specs.Lists.{MemberLists}
use Rattle.model_lists.proofs.Handling.{none-live}
use Rattle.model_lists.proofs.lists.ModelLists.new.Goals as goal

pub returns : goal.returns
returns c =
    none-live c.new.result.items c.new-3.result c.new.ensures.items (λ q. ap (λ (v : MemberLists). get v q) c.new-3.ensures)
