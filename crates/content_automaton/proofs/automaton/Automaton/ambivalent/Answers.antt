use Rattle.std.proofs.Common.{Bool, IsTrue, ◌↔◌, sym, subst}
use Rattle.content_automaton.specs.Attribution.{IsAmbivalent}
use Rattle.content_automaton.proofs.Attributing.{ambivalent_some, ambivalent_none}
use Rattle.content_automaton.proofs.automaton.Automaton.ambivalent.Goals as goal

pub returns-in-Some : goal.returns-in-Some
returns-in-Some c = λ t terms accepts model is name e.
    subst (λ (b : Bool). IsTrue b ↔ IsAmbivalent t terms name) (sym c.is_ambivalent.ensures)
    (ambivalent_some t terms accepts model c.args.self.now is name c.args.symbol e c.in-Some.attribution (sym c.in-Some.ensures))

pub returns-in-None : goal.returns-in-None
returns-in-None c = λ t terms accepts model is name e. ambivalent_none t terms accepts model c.args.self.now is name c.args.symbol e (sym c.in-None.ensures)
