use Rattle.content_models.proofs.Attributing.{member_for}
use Rattle.content_models.proofs.all_automaton.AllAutomaton.term_at.Goals as goal

pub returns : goal.returns
returns c = λ t terms accepts members model is un name e.
    member_for t terms accepts members model c.args.self.now is un name c.letter.result c.args.symbol c.letter.ensures e c.nth_term.result c.nth_term.ensures
