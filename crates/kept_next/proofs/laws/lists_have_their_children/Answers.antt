use Rattle.kept_next.proofs.Places.{children-many}
use Rattle.kept_next.proofs.laws.lists_have_their_children.Goals as goal

pub returns : goal.returns
returns c = children-many
