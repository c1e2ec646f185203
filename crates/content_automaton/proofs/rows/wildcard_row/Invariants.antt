use Rattle.content_automaton.specs.Rows.{AreAdmitted}
use Rattle.content_automaton.proofs.rows.wildcard_row.Given as goal

abbrev pub invariant-loop-symbol : goal.invariant-loop-symbol
invariant-loop-symbol l = AreAdmitted l.names l.symbols l.namespaces l.class l.symbol l.row.items
