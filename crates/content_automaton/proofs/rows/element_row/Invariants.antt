use Rattle.std.proofs.Common.{◌≡◌, map, take}
use Rattle.content_automaton.specs.Rows.{entry_of}
use Rattle.content_automaton.proofs.rows.element_row.Given as goal

abbrev pub invariant-loop-one : goal.invariant-loop-one
invariant-loop-one l = l.row.items ≡ map (entry_of l.names l.symbols) (take l.one-index l.given)
