use Rattle.std.proofs.Common.{◌≡◌, ◌≤◌, ◌-◌, ◌*◌, map, length}
use Rattle.content_automaton.specs.Built.{AreStates, AreSteps}
use Rattle.content_automaton.proofs.states.find_states.Given as goal

abbrev pub invariant-loop-state : goal.invariant-loop-state
invariant-loop-state l = record {
  states : AreStates l.form.table l.accepted l.symbols (map (λ state. state.items) l.states.sets.keys);
  few : length l.states.sets.keys ≤ 2048;
  sets : length l.sets.items ≡ l.symbols;
  here : l.state ≤ length l.states.sets.keys;
  steps : AreSteps l.form.table l.accepted l.symbols (map (λ state. state.items) l.states.sets.keys) l.cells.items;
  cells : length l.cells.items ≡ l.state * l.symbols;
}

abbrev pub decreases-loop-state : goal.decreases-loop-state
decreases-loop-state l = 2048 - l.state
