use Rattle.kept_next.proofs.Spaces.{place-named}
use Rattle.kept_next.proofs.laws.places_are_named.Goals as goal

pub returns : goal.returns
returns c = place-named
