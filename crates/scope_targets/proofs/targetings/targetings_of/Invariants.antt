use Rattle.std.proofs.Common.{◌≡◌, ◌<◌, ◌++◌, [], drop, length, map}
use Rattle.std.specs.Prelude.{All}
use Rattle.identity_constraints.specs.Seen.{KeyElement, KeyForest, element}
use Rattle.path_walk.specs.Sight.{seen}
use Rattle.scope_targets.specs.Found.{AreNamesOf, targeting_of}
use Rattle.scope_targets.specs.Targetings.{targetings_up}
use Rattle.scope_targets.proofs.targetings.targetings_of.Given as goal

abbrev pub invariant-loop-scope : goal.invariant-loop-scope
invariant-loop-scope g l = record {
  ways : All (λ name. name < length l.set.names.now.names) l.way.items;
  named : AreNamesOf l.set.names.now (map seen (drop l.scope-index l.scopes));
  so_far : (own : KeyElement) (below next : KeyForest) → g.T.KeySiblings.forest l.target ≡ element own below next
      → map targeting_of l.found.items ++ targetings_up l.set.names.now l.set.parts.now l.set.identities.now l.way.items own below (map seen (drop l.scope-index l.scopes))
      ≡ targetings_up l.set.names.now l.set.parts.now l.set.identities.now [] own below (map seen l.scopes);
}
