-- start
use Rattle.std.proofs.Common.{[], sym, subst}
use Rattle.content_models.specs.declared.automaton.ContentAutomaton.{ContentAutomaton}
use Rattle.model_lists.specs.declared.around.Reached.TheVariants.{Row, Seen}
use Rattle.model_lists.specs.Around.{LeadIn}
use Rattle.model_lists.proofs.around.ChildState.start.Goals as goal

pub returns-in-States : goal.returns-in-States
returns-in-States c = subst (λ (a : ContentAutomaton). LeadIn a [] (Row c.start.result)) (sym c.in-States.is) c.start.ensures.state

pub returns-in-All : goal.returns-in-All
returns-in-All c = subst (λ (a : ContentAutomaton). LeadIn a [] (Seen c.all_start.result)) (sym c.in-All.is) c.all_start.ensures
