use Rattle.std.proofs.Common.{sym}
use Rattle.content_models.proofs.Attributing.{pair_none, pair_given, pair_lost_first, pair_lost_second}
use Rattle.content_models.proofs.all_automaton.AllAutomaton.ambiguous.Goals as goal

pub returns-in_default : goal.returns-in_default
returns-in_default c = λ t terms accepts members model is. pair_none t terms accepts members model c.args.self.now is c.in_default.ensures

pub returns-in_default-nth_term : goal.returns-in_default-nth_term
returns-in_default-nth_term c = λ t terms accepts members model is.
    absurd (pair_lost_first t terms accepts members model c.args.self.now is c.in-Some.pair c.in-Some.ensures (sym c.in_default-nth_term.ensures))

pub returns-in_default-nth_term-2 : goal.returns-in_default-nth_term-2
returns-in_default-nth_term-2 c = λ t terms accepts members model is.
    absurd (pair_lost_second t terms accepts members model c.args.self.now is c.in-Some.pair c.in-Some.ensures (sym c.in_default-nth_term-2.ensures))

pub returns : goal.returns
returns c = λ t terms accepts members model is.
    pair_given t terms accepts members model c.args.self.now is c.in-Some.pair c.in-Some-nth_term.one c.in-Some-nth_term-2.other c.in-Some.ensures (sym c.in-Some-nth_term.ensures) (sym c.in-Some-nth_term-2.ensures)
