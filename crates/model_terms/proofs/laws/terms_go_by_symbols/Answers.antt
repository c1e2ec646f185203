use Rattle.model_terms.proofs.Runs.{by-symbol}
use Rattle.model_terms.proofs.laws.terms_go_by_symbols.Goals as goal

pub returns : goal.returns
returns c = by-symbol
