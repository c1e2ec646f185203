-- term
use Rattle.std.proofs.Common.{◌≡◌, true, [], ◌∷◌, ◌++◌, sym, subst}
use Rattle.content_models.specs.declared.automaton.ContentAutomaton.{ContentAutomaton}
use Rattle.model_terms.specs.Symbols.{AreSymbolsBy}
use Rattle.model_terms.specs.Terms.{begins, term_after}
use Rattle.model_lists.specs.declared.around.Reached.{Reached}
use Rattle.model_lists.specs.Around.{LeadIn}
use Rattle.model_lists.proofs.Leading.{one-below, row-led, row-reached}
use Rattle.model_lists.proofs.around.ChildState.term.Goals as goal

pub row-requires : goal.row-requires
row-requires c =
    let q = c.requires.state in
    row-led c.args.automaton.now c.in-States.states c.in-States.is q.0 c.args.self.reached q.1

pub state_term-requires : goal.state_term-requires
state_term-requires c = one-below c.args.automaton.now c.in-States.states c.in-States.is c.args.symbol c.requires.symbol

pub returns-in-States : goal.returns-in-States
returns-in-States c = λ before l of begun.
    let symbol = c.args.symbol in
    let a_is = c.in-States.is in
    let led = row-reached c.args.automaton.now before c.in-States.states a_is c.row.result (subst (λ (r : Reached). LeadIn c.args.automaton.now before r) c.row.ensures l) in
    subst (λ (a : ContentAutomaton). c.state_term.result ≡ term_after a before symbol) (sym a_is)
    (c.state_term.ensures before (subst (λ (a : ContentAutomaton). AreSymbolsBy a (before ++ symbol ∷ [])) a_is of) led
    (subst (λ (a : ContentAutomaton). begins a (before ++ symbol ∷ []) ≡ true) a_is begun))

pub returns-in-All : goal.returns-in-All
returns-in-All c = λ before l of begun.
    let symbol = c.args.symbol in
    let a_is = c.in-All.is in
    subst (λ (a : ContentAutomaton). c.member_term.result ≡ term_after a before symbol) (sym a_is)
    (c.member_term.ensures before (subst (λ (a : ContentAutomaton). AreSymbolsBy a (before ++ symbol ∷ [])) a_is of)
    (subst (λ (a : ContentAutomaton). begins a (before ++ symbol ∷ []) ≡ true) a_is begun))
