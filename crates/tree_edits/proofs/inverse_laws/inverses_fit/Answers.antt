use Rattle.tree_edits.proofs.Fitting.{kept, fits_back}
use Rattle.tree_edits.proofs.inverse_laws.inverses_fit.Goals as goal

pub returns-clause-tree : goal.returns-clause-tree
returns-clause-tree c = kept

pub returns-clause-fits : goal.returns-clause-fits
returns-clause-fits c = fits_back
