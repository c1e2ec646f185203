use Rattle.std.proofs.Common.{◌≡◌, ℕ, take, length}
use Rattle.content_models.specs.declared.automaton.ContentAutomaton.TheVariants.{All}
use Rattle.assessment.specs.Attribution.{SchemaSet}
use Rattle.assessment.specs.inside.Found.{all_state_in, IsKept, AreFound}
use Rattle.assessment.proofs.all_walk.terms_by_all.Given as goal

abbrev pub invariant-loop-name : goal.invariant-loop-name
invariant-loop-name l = record {
  state : l.state ≡ all_state_in l.names l.automaton (take l.name-index l.children);
  count : length l.found.terms.items ≡ l.name-index;
  found : (s : SchemaSet) (p : ℕ) → s.names ≡ l.names → IsKept s p (All l.automaton) → AreFound s p (take l.name-index l.children) l.found.stuck l.found.terms.items;
}
