use Rattle.std.proofs.Common.{◌≡◌, length}
use Rattle.content_automaton.proofs.Noting.{AreNotedUpTo}
use Rattle.content_automaton.proofs.attribution.note_row.Given as goal

abbrev pub invariant-loop-entry : goal.invariant-loop-entry
invariant-loop-entry l = record {
  noted : AreNotedUpTo l.initial.list.items l.list.items l.term l.row l.entry-index;
  count : length l.list.items ≡ length l.initial.list.items;
}
