use Rattle.doc_changes.specs.Stands.{StandsFor}
use Rattle.arena_tests.proofs.drawn.make_changes.Given as goal

abbrev pub invariant-loop-number : goal.invariant-loop-number
invariant-loop-number g l = StandsFor l.names l.doc l.tree
