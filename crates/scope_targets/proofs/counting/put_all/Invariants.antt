use Rattle.std.proofs.Common.{length}
use Rattle.scope_targets.proofs.Tallies.{HasCome, counted_found}
use Rattle.scope_targets.proofs.counting.put_all.Given as goal

abbrev pub invariant-found : goal.invariant-found
invariant-found l = HasCome l.tree (counted_found l.found) (counted_found l.left) l.initial.records l.records

abbrev pub decreases-found : goal.decreases-found
decreases-found l = length l.left
