use Rattle.std.proofs.Common.{◌≡◌, map, take}
use Rattle.content_automaton.specs.declared.rows.Entry.{Entry}
use Rattle.content_automaton.proofs.rows.accepted_of.Given as goal

abbrev pub invariant-loop-entry : goal.invariant-loop-entry
invariant-loop-entry l = l.list.items ≡ map (λ (e : Entry). e.symbol) (take l.entry-index l.row)
