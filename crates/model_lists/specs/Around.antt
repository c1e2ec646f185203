-- What contracts see of the states that child elements lead to.
use Rattle.std.specs.Prelude.{◌≡◌, ℕ, List, map}
use Rattle.content_automaton.specs.Automaton.{state_of}
use Rattle.content_models.specs.States as alls
use Rattle.content_models.specs.Modelled.{letter_of}
use Rattle.content_models.specs.declared.automaton.ContentAutomaton.{ContentAutomaton}
use Rattle.content_models.specs.declared.automaton.ContentAutomaton.TheVariants.{States, All}
use Rattle.model_lists.specs.declared.around.ChildState.{ChildState}
use Rattle.model_lists.specs.declared.around.Reached.{Reached}
use Rattle.model_lists.specs.declared.around.Reached.TheVariants.{Row, Seen}

abbrev pub LeadIn : ContentAutomaton → List ℕ → Reached → Type 0
LeadIn (States a) symbols (Row state) = state ≡ state_of a.machine symbols
LeadIn (States a) symbols (Seen state) = ⊥
LeadIn (All a) symbols (Row state) = ⊥
LeadIn (All a) symbols (Seen state) = state ≡ alls.state_of a.machine (map (letter_of a) symbols)

-- child elements with these symbols lead to the state
abbrev pub LeadTo : ContentAutomaton → List ℕ → ChildState → Type 0
LeadTo a symbols s = LeadIn a symbols s.reached
