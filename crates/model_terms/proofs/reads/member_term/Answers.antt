use Rattle.model_terms.proofs.Reading.{member-one}
use Rattle.model_terms.proofs.reads.member_term.Goals as goal

pub returns : goal.returns
returns c = member-one c.args.automaton.now c.args.symbol c.term_at.result c.term_at.ensures
