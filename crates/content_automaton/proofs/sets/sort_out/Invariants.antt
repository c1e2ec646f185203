use Rattle.std.proofs.Common.{◌≡◌, length}
use Rattle.content_automaton.specs.Moves.{takes}
use Rattle.content_automaton.proofs.Putting.{AreSplit}
use Rattle.content_automaton.proofs.sets.sort_out.Given as goal

abbrev pub invariant-loop-p : goal.invariant-loop-p
invariant-loop-p l = record {
  sets : AreSplit (λ set. set.items) (takes l.form.table l.accepted) l.set l.sets.items l.p-index;
  count : length l.sets.items ≡ length l.fn.sets.items;
}
