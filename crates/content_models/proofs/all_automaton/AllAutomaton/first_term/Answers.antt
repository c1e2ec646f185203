use Rattle.std.proofs.Common.{sym}
use Rattle.content_models.proofs.Attributing.{none_kept, first_none, found_first}
use Rattle.content_models.proofs.all_automaton.AllAutomaton.first_term.Goals as goal

pub returns-in_default : goal.returns-in_default
returns-in_default c = λ t terms accepts members model is name e. none_kept t terms accepts members model c.args.self.now is name c.args.symbol e (sym c.in_default.ensures)

pub returns-in_default-first_of : goal.returns-in_default-first_of
returns-in_default-first_of c = λ t terms accepts members model is name e.
    first_none t terms accepts members model c.args.self.now is name c.args.symbol e c.in-Some.attribution (sym c.in-Some.ensures) (sym c.in_default-first_of.ensures)

pub returns : goal.returns
returns c = λ t terms accepts members model is name e.
    found_first t terms accepts members model c.args.self.now is name c.args.symbol e c.in-Some.attribution c.in-Some-first_of.number c.in-Some.ensures c.in-Some-first_of.ensures c.nth_term.result c.nth_term.ensures
