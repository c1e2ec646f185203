use Rattle.scope_targets.proofs.Links.{records-still, unseen}
use Rattle.scope_targets.proofs.counted_laws.counts_stay_as_links_change.Goals as goal

pub returns : goal.returns
returns c = record {
  stay = λ t u refs d r linked linked2 differ are. records-still t u refs d r linked linked2 differ are;
  unseen = λ t parents all among linked are settled none closed n is y. unseen t parents all among linked are settled none closed n is y;
}
