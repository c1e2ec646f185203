use Rattle.std.proofs.Common.{subst, ◌∙◌}
use Rattle.model_lists.specs.declared.around.Reached.{Reached}
use Rattle.model_lists.specs.Around.{LeadIn}
use Rattle.model_lists.proofs.Leading.{row-states, row-word, seen-members, seen-word}
use Rattle.model_lists.proofs.around.ChildState.is_word.Goals as goal

pub states_of-requires : goal.states_of-requires
states_of-requires c =
    let q = c.requires in
    row-states c.args.automaton.now q.0 c.in-Row.state (subst (λ (r : Reached). LeadIn c.args.automaton.now q.0 r) c.in-Row.is q.1)

pub returns-in-Row : goal.returns-in-Row
returns-in-Row c =
    λ symbols l. c.accepting.ensures ∙ row-word c.args.automaton.now symbols c.states_of.result.now c.states_of.ensures c.in-Row.state (subst (λ (r : Reached). LeadIn c.args.automaton.now symbols r) c.in-Row.is l)

pub members_of-requires : goal.members_of-requires
members_of-requires c =
    let q = c.requires in
    seen-members c.args.automaton.now q.0 c.in-Seen.state (subst (λ (r : Reached). LeadIn c.args.automaton.now q.0 r) c.in-Seen.is q.1)

pub returns-in-Seen : goal.returns-in-Seen
returns-in-Seen c =
    λ symbols l. c.all_accepting.ensures ∙ seen-word c.args.automaton.now symbols c.members_of.result.now c.members_of.ensures c.in-Seen.state (subst (λ (r : Reached). LeadIn c.args.automaton.now symbols r) c.in-Seen.is l)
