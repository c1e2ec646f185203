use Rattle.std.proofs.Common.{subst}
use Rattle.model_lists.specs.declared.around.Reached.{Reached}
use Rattle.model_lists.specs.Around.{LeadIn}
use Rattle.model_lists.proofs.Leading.{row-states, one-below, row-next, seen-members, seen-next}
use Rattle.model_lists.proofs.around.ChildState.with.Goals as goal

pub states_of-requires : goal.states_of-requires
states_of-requires g c =
    let q = c.requires.state in
    row-states c.args.automaton.now q.0 c.in-Row.state (subst (λ (r : Reached). LeadIn c.args.automaton.now q.0 r) c.in-Row.is q.1)

pub step-requires : goal.step-requires
step-requires g c =
    one-below c.args.automaton.now c.states_of.result.now c.states_of.ensures c.args.symbol c.requires.symbol

pub returns-in-Row-clause-state : goal.returns-in-Row-clause-state
returns-in-Row-clause-state g c =
    λ before l. row-next c.args.automaton.now before c.states_of.result.now c.states_of.ensures c.in-Row.state c.args.symbol c.step.result (subst (λ (r : Reached). LeadIn c.args.automaton.now before r) c.in-Row.is l) c.step.ensures.state

pub members_of-requires : goal.members_of-requires
members_of-requires g c =
    let q = c.requires.state in
    seen-members c.args.automaton.now q.0 c.in-Seen.state (subst (λ (r : Reached). LeadIn c.args.automaton.now q.0 r) c.in-Seen.is q.1)

pub returns-in-Seen-clause-state : goal.returns-in-Seen-clause-state
returns-in-Seen-clause-state g c =
    λ before l. seen-next c.args.automaton.now before c.members_of.result.now c.members_of.ensures c.in-Seen.state c.all_step.result c.args.symbol (subst (λ (r : Reached). LeadIn c.args.automaton.now before r) c.in-Seen.is l) c.all_step.ensures.state
