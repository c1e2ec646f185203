use Rattle.kept_targets.proofs.Touching.{IsTouchingBut, level}
use Rattle.kept_targets.proofs.above.add_touching.Given as goal

abbrev pub invariant-up : goal.invariant-up
invariant-up l = IsTouchingBut l.by.set.now l.by.doc.now l.by.state.now.records.slots l.keys l.node l.next l.initial.touched l.touched

abbrev pub decreases-up : goal.decreases-up
decreases-up l = level l.by.doc.now l.next
