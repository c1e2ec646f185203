use Rattle.std.proofs.Common.{◌≡◌, length}
use Rattle.identity_constraints.specs.Seen.{KeyElement, KeyForest, element}
use Rattle.forest_keys.specs.inside.Found.{targets_at, targets_for}
use Rattle.forest_keys.specs.inside.Records.{CanGrow}
use Rattle.forest_keys.proofs.Growing.{Reached}
use Rattle.forest_keys.proofs.putting.put_element.Given as goal

abbrev pub invariant-constraints : goal.invariant-constraints
invariant-constraints g l = record {
  can : CanGrow l.by.tree l.records;
  reached : (own : KeyElement) (below next : KeyForest) → g.T.KeySiblings.forest l.at ≡ element own below next
      → Reached l.by.tree (targets_at l.by.set.names.now l.by.set.parts.now l.by.set.identities.now l.place own below)
      (targets_for l.by.set.names.now l.by.set.parts.now l.by.set.identities.now l.place l.left own below) l.initial.records l.records;
}

abbrev pub decreases-constraints : goal.decreases-constraints
decreases-constraints g l = length l.left
