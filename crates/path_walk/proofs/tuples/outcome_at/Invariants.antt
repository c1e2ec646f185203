use Rattle.std.proofs.Common.{◌≡◌, ◌++◌, List, [], length, map}
use Rattle.xpath_subset.specs.declared.path.Path.{Path}
use Rattle.identity_constraints.specs.Seen.{KeyElement, KeyForest, element}
use Rattle.identity_constraints.specs.Targets.{field_nodes}
use Rattle.path_walk.specs.inside.Walk.{reached}
use Rattle.path_walk.specs.inside.Extended.{AreFieldsOf}
use Rattle.path_walk.proofs.tuples.outcome_at.Given as goal

abbrev pub invariant-fields : goal.invariant-fields
invariant-fields g l = record {
  done : List (List Path);
  all : l.fields ≡ done ++ l.left;
  outcome_is : (own : KeyElement) (below next : KeyForest) → g.T.KeySiblings.forest l.target ≡ element own below next → AreFieldsOf l.set.parts.now (map (λ field. field_nodes l.set.names.now field (reached [] own below)) done) l.outcome;
}

abbrev pub decreases-fields : goal.decreases-fields
decreases-fields g l = length l.left
