use Rattle.std.proofs.Common.{◌≡◌, ◌≤◌, ◌++◌, List, length}
use Rattle.identity_constraints.specs.Targets.{FieldNode}
use Rattle.path_walk.specs.Sight.{AreNamed}
use Rattle.path_walk.specs.inside.Nodes.{AreAdded}
use Rattle.path_walk.specs.inside.Walk.{nodes_along, size}
use Rattle.path_walk.proofs.fields.+add_below.Given as goal

abbrev pub decreases-add_below : goal.decreases-add_below
decreases-add_below g l = size (g.T.KeySiblings.forest l.siblings)

abbrev pub invariant-left : goal.invariant-left
invariant-left g l = record {
  named : AreNamed l.set.names.now (g.T.KeySiblings.forest l.left);
  way : l.way.items ≡ l.initial.way.items;
  depth : l.depth ≡ length l.initial.way.items;
  fewer : size (g.T.KeySiblings.forest l.left) ≤ size (g.T.KeySiblings.forest l.fn.siblings);
  done : List FieldNode;
  added : AreAdded l.set.parts.now done l.initial.nodes l.nodes;
  all : nodes_along l.set.names.now l.field l.initial.way.items (g.T.KeySiblings.forest l.fn.siblings) ≡ done ++ nodes_along l.set.names.now l.field l.initial.way.items (g.T.KeySiblings.forest l.left);
}

abbrev pub decreases-left : goal.decreases-left
decreases-left g l = size (g.T.KeySiblings.forest l.left)
