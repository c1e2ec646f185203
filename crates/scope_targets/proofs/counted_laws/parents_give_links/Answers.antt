use Rattle.scope_targets.proofs.Linked.{linked-by}
use Rattle.scope_targets.proofs.counted_laws.parents_give_links.Goals as goal

pub returns : goal.returns
returns c = λ parents. linked-by parents
