use Rattle.std.proofs.Common.{◌≡◌, ◌≤◌, ◌++◌, length, map}
use Rattle.path_walk.specs.Outcomes.{outcome_of}
use Rattle.path_walk.specs.Sight.{AreNamed}
use Rattle.path_walk.specs.inside.Walk.{size}
use Rattle.path_walk.specs.inside.Extended.{outcomes_along}
use Rattle.path_walk.proofs.targets.+add_targets.Given as goal

abbrev pub decreases-add_targets : goal.decreases-add_targets
decreases-add_targets g l = size (g.T.KeySiblings.forest l.siblings)

abbrev pub invariant-left : goal.invariant-left
invariant-left g l = record {
  named : AreNamed l.set.names.now (g.T.KeySiblings.forest l.left);
  way : l.way.items ≡ l.initial.way.items;
  depth : l.depth ≡ length l.initial.way.items;
  fewer : size (g.T.KeySiblings.forest l.left) ≤ size (g.T.KeySiblings.forest l.fn.siblings);
  found : map outcome_of l.initial.found.items ++ outcomes_along l.set.names.now l.set.parts.now l.paths l.initial.way.items (g.T.KeySiblings.forest l.fn.siblings)
      ≡ map outcome_of l.found.items ++ outcomes_along l.set.names.now l.set.parts.now l.paths l.initial.way.items (g.T.KeySiblings.forest l.left);
}

abbrev pub decreases-left : goal.decreases-left
decreases-left g l = size (g.T.KeySiblings.forest l.left)
