use Rattle.std.proofs.Common.{◌≡◌, true, [], ◌∷◌, ◌++◌, take, sym, subst, arith}
use Rattle.content_models.specs.declared.automaton.ContentAutomaton.{ContentAutomaton}
use Rattle.model_terms.specs.Symbols.{AreSymbolsBy}
use Rattle.model_terms.specs.Terms.{begins, term_after}
use Rattle.model_lists.proofs.Entries.{counted}
use Rattle.model_lists.proofs.RowKeeping.{over-states, row-live, row-place}
use Rattle.model_lists.proofs.Leading.{row-state, symbol-below, rows-led}
use Rattle.model_lists.proofs.rows.term_row.Goals as goal

pub states_of-states-requires : goal.states_of-states-requires
states_of-states-requires g c =
    let q = c.requires in
    over-states c.args.lists.now c.args.list c.args.automaton.now q.0 q.1

pub upto-before-requires-clause-live : goal.upto-before-requires-clause-live
upto-before-requires-clause-live g c =
    let q = c.requires in
    let l = row-live c.args.lists.now c.args.list c.args.automaton.now q.0 q.1 in
    (l.0, l.1)

pub upto-before-requires-clause-place : goal.upto-before-requires-clause-place
upto-before-requires-clause-place g c =
    let q = c.requires in
    let less = q.2 in
    row-place c.args.lists.now c.args.list c.args.automaton.now q.0 q.1 c.args.child.place (omega arith)

pub upto-before-requires-clause-state : goal.upto-before-requires-clause-state
upto-before-requires-clause-state g c =
    let q = c.requires in
    row-state c.args.automaton.now c.states_of-states.result.now c.states_of-states.ensures c.args.lists.now c.args.list q.0 q.1 c.start.result c.start.ensures.below

pub state_term-requires : goal.state_term-requires
state_term-requires g c =
    let q = c.requires in
    symbol-below c.args.automaton.now c.states_of-states.result.now c.states_of-states.ensures q.0 c.args.child.place c.args.child.symbol q.4 q.2 q.3

pub returns-clause-term : goal.returns-clause-term
returns-clause-term g c =
    λ symbols h of begun.
    let front = take c.args.child.place symbols in
    let led = rows-led c.args.automaton.now c.states_of-states.result.now c.states_of-states.ensures c.args.lists.now c.args.list c.start.result c.start.ensures.state symbols h c.args.child.place c.upto-before.result c.upto-before.ensures.value in
    subst (λ (a : ContentAutomaton). c.state_term.result ≡ term_after a front c.args.child.symbol) (sym c.states_of-states.ensures)
    (c.state_term.ensures front (subst (λ (a : ContentAutomaton). AreSymbolsBy a (front ++ c.args.child.symbol ∷ [])) c.states_of-states.ensures of) led
    (subst (λ (a : ContentAutomaton). begins a (front ++ c.args.child.symbol ∷ []) ≡ true) c.states_of-states.ensures begun))

pub returns-clause-steps : goal.returns-clause-steps
returns-clause-steps g c =
    λ symbols h.
    let l = row-live c.args.lists.now c.args.list c.args.automaton.now symbols h in
    counted c.args.steps.now c.upto-before.new.steps 8 1 _ _ l.2 (c.upto-before.ensures.steps l.0 l.1)
