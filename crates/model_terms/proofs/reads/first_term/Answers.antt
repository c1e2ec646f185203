use Rattle.model_terms.proofs.Reading.{first-one}
use Rattle.model_terms.proofs.reads.first_term.Goals as goal

pub returns : goal.returns
returns c = λ of. first-one c.args.automaton.now c.args.symbol of c.first_term.result c.first_term.ensures
