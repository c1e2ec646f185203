use Rattle.kept_next.proofs.Places.{names-fit}
use Rattle.kept_next.proofs.laws.symbols_fit_as_their_names.Goals as goal

pub returns : goal.returns
returns c = names-fit
