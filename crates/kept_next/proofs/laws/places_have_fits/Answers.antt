use Rattle.kept_next.proofs.Places.{all-fits}
use Rattle.kept_next.proofs.laws.places_have_fits.Goals as goal

pub returns : goal.returns
returns c = all-fits
