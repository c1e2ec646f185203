use Rattle.model_terms.proofs.Reading.{state-one}
use Rattle.model_terms.proofs.reads.state_term.Goals as goal

pub returns : goal.returns
returns c = state-one c.args.automaton.now c.args.state c.args.symbol c.term_at.result c.term_at.ensures
