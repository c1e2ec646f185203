use Rattle.std.proofs.Common.{◌≡◌, ◌++◌, length, map}
use Rattle.identity_constraints.specs.Seen.{KeyElement, KeyForest, element}
use Rattle.path_walk.specs.inside.Walk.{reached}
use Rattle.scope_targets.specs.Found.{targeting_of}
use Rattle.scope_targets.specs.Targetings.{targetings_for}
use Rattle.scope_targets.proofs.targetings.add_targets.Given as goal

abbrev pub invariant-constraints : goal.invariant-constraints
invariant-constraints g l = (own : KeyElement) (below next : KeyForest) → g.T.KeySiblings.forest l.target ≡ element own below next
    → map targeting_of l.found.items ++ targetings_for l.set.names.now l.set.parts.now l.set.identities.now l.from.scope l.left (reached l.from.way.now own below)
    ≡ map targeting_of l.initial.found.items ++ targetings_for l.set.names.now l.set.parts.now l.set.identities.now l.from.scope l.constraints (reached l.from.way.now own below)

abbrev pub decreases-constraints : goal.decreases-constraints
decreases-constraints g l = length l.left
