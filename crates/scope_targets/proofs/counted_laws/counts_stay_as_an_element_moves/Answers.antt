use Rattle.scope_targets.proofs.Linked.{moved-kept}
use Rattle.scope_targets.proofs.counted_laws.counts_stay_as_an_element_moves.Goals as goal

pub returns : goal.returns
returns c = λ old new n parent moves lower among is closed none kept. moved-kept old new n parent moves lower among is closed none kept
