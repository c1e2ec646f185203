use Rattle.what_is_found.proofs.Governings.{usable-terms}
use Rattle.what_is_found.proofs.usable_laws.terms_are_there.Goals as goal

pub returns : goal.returns
returns c = usable-terms
