use Rattle.kept_slots.proofs.ElementSums.{weights_are}
use Rattle.kept_slots.proofs.laws.slots_are_summed_as_elements.Goals as goal

pub returns : goal.returns
returns c = record { sums = weights_are }
