use Rattle.std.proofs.Common.{length, map}
use Rattle.path_walk.specs.Outcomes.{outcome_of}
use Rattle.forest_keys.specs.inside.Found.{targets_of}
use Rattle.forest_keys.proofs.Growing.{Reached}
use Rattle.forest_keys.proofs.putting.put_outcomes.Given as goal

abbrev pub invariant-found : goal.invariant-found
invariant-found l = Reached l.tree (targets_of l.place l.constraint (map outcome_of l.found)) (targets_of l.place l.constraint (map outcome_of l.left)) l.initial.records l.records

abbrev pub decreases-found : goal.decreases-found
decreases-found l = length l.left
