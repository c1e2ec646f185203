use Rattle.std.proofs.Common.{map, length, drop}
use Rattle.content_automaton.proofs.Turning.{IsTurn}
use Rattle.content_automaton.proofs.states.add_row.Given as goal

abbrev pub invariant-loop-set : goal.invariant-loop-set
invariant-loop-set l =
    IsTurn l.form.table l.accepted l.symbols (λ set. set.items) (map (λ state. state.items) l.states.sets.keys) l.cells.items l.state l.next.items (length l.initial.states.sets.keys) (drop l.set-index l.all)
