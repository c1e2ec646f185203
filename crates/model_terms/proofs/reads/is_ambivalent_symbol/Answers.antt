use Rattle.model_terms.proofs.Reading.{mixed-one}
use Rattle.model_terms.proofs.reads.is_ambivalent_symbol.Goals as goal

pub returns : goal.returns
returns c = λ of. mixed-one c.args.automaton.now c.args.symbol of c.ambivalent.result c.ambivalent.ensures
