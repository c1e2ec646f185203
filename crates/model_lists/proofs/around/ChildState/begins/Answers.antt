use Rattle.std.proofs.Common.{subst, arith}
use Rattle.model_lists.specs.declared.around.Reached.{Reached}
use Rattle.model_lists.specs.Around.{LeadIn}
use Rattle.model_lists.proofs.Leading.{row-states, row-begins, seen-begins}
use Rattle.model_lists.proofs.around.ChildState.begins.Goals as goal

pub states_of-requires : goal.states_of-requires
states_of-requires c =
    let q = c.requires in
    row-states c.args.automaton.now q.0 c.in-Row.state (subst (λ (r : Reached). LeadIn c.args.automaton.now q.0 r) c.in-Row.is q.1)

pub returns-in-Row : goal.returns-in-Row
returns-in-Row c =
    λ symbols l. row-begins c.args.automaton.now symbols c.states_of.result.now c.states_of.ensures c.in-Row.state _ (let w = c.width.ensures in omega arith) (subst (λ (r : Reached). LeadIn c.args.automaton.now symbols r) c.in-Row.is l)

pub returns-in-Seen : goal.returns-in-Seen
returns-in-Seen c =
    λ symbols l. seen-begins c.args.automaton.now symbols c.in-Seen.state (subst (λ (r : Reached). LeadIn c.args.automaton.now symbols r) c.in-Seen.is l)
