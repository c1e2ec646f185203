-- The codes of identity constraints stay as records are made right upwards.
use Rattle.std.proofs.Common.{ap}
use Rattle.child_lists.specs.from_kept_records.KeptElement.{KeptElement}
use Rattle.child_lists.specs.from_kept_state.KeptState.{KeptState}
use Rattle.kept_above.specs.Climbing.{KeepsRest}
use Rattle.kept_below.specs.Below.{KeepsIdentity}

-- nothing but counts and records is another
pub climbed : (old new : KeptState) → KeepsRest old new → KeepsIdentity old new
climbed old new rest n = ap (λ (k : KeptElement). k.identity) (rest.rest n)
