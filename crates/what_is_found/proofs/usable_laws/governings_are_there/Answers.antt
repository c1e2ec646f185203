use Rattle.what_is_found.proofs.Governings.{usable-governings}
use Rattle.what_is_found.proofs.usable_laws.governings_are_there.Goals as goal

pub returns : goal.returns
returns c = usable-governings
