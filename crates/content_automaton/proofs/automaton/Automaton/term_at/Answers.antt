use Rattle.std.proofs.Common.{◌≡◌, Some, None, sym, ap, subst, ◌∙◌}
use Rattle.content_automaton.specs.Automaton.{step_of, dead_of, term_of}
use Rattle.content_automaton.specs.Modelled.{ModelAutomaton}
use Rattle.content_automaton.proofs.Attributing.{live_of, dead_term, no_term, found_term}
use Rattle.content_automaton.proofs.automaton.Automaton.term_at.Goals as goal

pub returns-then-next-dead : goal.returns-then-next-dead
returns-then-next-dead c = λ t terms accepts model is un names name e f.
    let q = subst (λ (a : ModelAutomaton). c.step-next.result ≡ step_of a.machine c.args.state c.args.symbol) c.self.view_is c.step-next.ensures in
    let d = subst (λ (a : ModelAutomaton). c.dead.result ≡ dead_of a.machine) c.self.view_is c.dead.ensures.number in
    dead_term t terms accepts model c.args.self.now is un names name c.args.state c.args.symbol e f (sym q ∙ (c.if-next-dead.true ∙ d))

pub returns-in_default : goal.returns-in_default
returns-in_default c = λ t terms accepts model is un names name e f.
    let q = subst (λ (a : ModelAutomaton). c.step-next.result ≡ step_of a.machine c.args.state c.args.symbol) c.self.view_is c.step-next.ensures in
    let d = subst (λ (a : ModelAutomaton). c.dead.result ≡ dead_of a.machine) c.self.view_is c.dead.ensures.number in
    let n = subst (λ (a : ModelAutomaton). None ≡ term_of a.machine c.step-next.result) c.self.view_is c.in_default.ensures in
    absurd (no_term t terms accepts model c.args.self.now is un names name c.args.state c.args.symbol e f
    (live_of c.args.self.now.machine c.args.state c.args.symbol c.step-next.result c.dead.result q d c.if-next-dead.false)
    (ap (term_of c.args.self.now.machine) (sym q) ∙ sym n))

pub returns : goal.returns
returns c = λ t terms accepts model is un names name e f.
    let q = subst (λ (a : ModelAutomaton). c.step-next.result ≡ step_of a.machine c.args.state c.args.symbol) c.self.view_is c.step-next.ensures in
    let d = subst (λ (a : ModelAutomaton). c.dead.result ≡ dead_of a.machine) c.self.view_is c.dead.ensures.number in
    let n = subst (λ (a : ModelAutomaton). Some c.in-Some.number ≡ term_of a.machine c.step-next.result) c.self.view_is c.in-Some.ensures in
    found_term t terms accepts model c.args.self.now is un names name c.args.state c.args.symbol e f
    (live_of c.args.self.now.machine c.args.state c.args.symbol c.step-next.result c.dead.result q d c.if-next-dead.false)
    c.in-Some.number (n ∙ ap (term_of c.args.self.now.machine) q) c.nth_term.result c.nth_term.ensures
