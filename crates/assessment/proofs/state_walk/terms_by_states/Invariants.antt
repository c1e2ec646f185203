use Rattle.std.proofs.Common.{◌≡◌, ℕ, take, length}
use Rattle.content_automaton.specs.Automaton.{state_of}
use Rattle.content_models.specs.declared.automaton.ContentAutomaton.TheVariants.{States}
use Rattle.assessment.specs.Attribution.{SchemaSet}
use Rattle.assessment.specs.inside.Found.{symbols_in, IsKept, AreFound}
use Rattle.assessment.proofs.state_walk.terms_by_states.Given as goal

abbrev pub invariant-loop-name : goal.invariant-loop-name
invariant-loop-name l = record {
  state : l.state ≡ state_of l.automaton.machine (symbols_in l.names l.automaton.symbols (take l.name-index l.children));
  count : length l.found.terms.items ≡ l.name-index;
  found : (s : SchemaSet) (p : ℕ) → s.names ≡ l.names → IsKept s p (States l.automaton) → AreFound s p (take l.name-index l.children) l.found.stuck l.found.terms.items;
}
