use Rattle.std.proofs.Common.{◌≡◌, ◌≤◌, ◌<◌, ◌^◌, ◌++◌, length}
use Rattle.path_walk.specs.inside.Walk.{size}
use Rattle.forest_keys.specs.inside.Places.{parents_along}
use Rattle.forest_keys.proofs.placing.+add_parents.Given as goal

abbrev pub decreases-add_parents : goal.decreases-add_parents
decreases-add_parents g l = size (g.T.KeySiblings.forest l.siblings)

abbrev pub invariant-left : goal.invariant-left
invariant-left g l = record {
  fewer : size (g.T.KeySiblings.forest l.left) ≤ size (g.T.KeySiblings.forest l.fn.siblings);
  few : length l.parents.items < 2 ^ 32;
  so_far : l.parents.items ++ parents_along (length l.parents.items) l.parent (g.T.KeySiblings.forest l.left)
      ≡ l.initial.parents.items ++ parents_along (length l.initial.parents.items) l.parent (g.T.KeySiblings.forest l.fn.siblings);
}

abbrev pub decreases-left : goal.decreases-left
decreases-left g l = size (g.T.KeySiblings.forest l.left)
