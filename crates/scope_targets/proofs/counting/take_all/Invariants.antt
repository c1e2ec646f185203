use Rattle.std.proofs.Common.{length}
use Rattle.scope_targets.proofs.Tallies.{HasGone, counted_found}
use Rattle.scope_targets.proofs.counting.take_all.Given as goal

abbrev pub invariant-found : goal.invariant-found
invariant-found l = HasGone l.tree (counted_found l.found) (counted_found l.left) l.initial.records l.records

abbrev pub decreases-found : goal.decreases-found
decreases-found l = length l.left
