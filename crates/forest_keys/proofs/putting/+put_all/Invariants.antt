use Rattle.std.proofs.Common.{◌≡◌, ◌+◌, ◌≤◌}
use Rattle.path_walk.specs.Sight.{AreNamed}
use Rattle.path_walk.specs.inside.Walk.{size}
use Rattle.forest_keys.specs.inside.Found.{targets_along}
use Rattle.forest_keys.specs.inside.Records.{CanGrow}
use Rattle.forest_keys.proofs.Growing.{Reached}
use Rattle.forest_keys.proofs.putting.+put_all.Given as goal

abbrev pub decreases-put_all : goal.decreases-put_all
decreases-put_all g l = size (g.T.KeySiblings.forest l.siblings)

abbrev pub invariant-left : goal.invariant-left
invariant-left g l = record {
  named : AreNamed l.by.set.names.now (g.T.KeySiblings.forest l.left);
  fewer : size (g.T.KeySiblings.forest l.left) ≤ size (g.T.KeySiblings.forest l.fn.siblings);
  place_is : l.next + size (g.T.KeySiblings.forest l.left) ≡ l.fn.place + size (g.T.KeySiblings.forest l.fn.siblings);
  can : CanGrow l.by.tree l.records;
  reached : Reached l.by.tree (targets_along l.by.set.names.now l.by.set.parts.now l.by.set.identities.now l.fn.place (g.T.KeySiblings.forest l.fn.siblings))
      (targets_along l.by.set.names.now l.by.set.parts.now l.by.set.identities.now l.next (g.T.KeySiblings.forest l.left)) l.initial.records l.records;
}

abbrev pub decreases-left : goal.decreases-left
decreases-left g l = size (g.T.KeySiblings.forest l.left)
