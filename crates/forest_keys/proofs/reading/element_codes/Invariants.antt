use Rattle.std.proofs.Common.{◌≡◌, ◌++◌, length}
use Rattle.std.specs.Prelude.{slice_get}
use Rattle.std.specs.List.{flat_map}
use Rattle.identity_constraints.specs.Seen.{KeyForest}
use Rattle.identity_constraints.specs.Targets.{constraints_of}
use Rattle.identity_constraints.specs.Satisfied.{codes_by}
use Rattle.path_walk.specs.Sight.{seen}
use Rattle.forest_keys.specs.inside.Records.{AreFilledAt}
use Rattle.forest_keys.proofs.reading.element_codes.Given as goal

abbrev pub invariant-constraints : goal.invariant-constraints
invariant-constraints l = (below : KeyForest) → AreFilledAt l.by.set.names.now l.by.set.parts.now l.by.set.identities.now l.by.tree l.records l.place (seen l.own) below
    → flat_map (λ k. codes_by l.by.set.names.now l.by.set.parts.now l.by.set.identities.now k (slice_get l.by.set.parts.now.constraints.parts k) (seen l.own) below) (constraints_of l.by.set.parts.now (seen l.own))
    ≡ l.codes ++ flat_map (λ k. codes_by l.by.set.names.now l.by.set.parts.now l.by.set.identities.now k (slice_get l.by.set.parts.now.constraints.parts k) (seen l.own) below) l.left

abbrev pub decreases-constraints : goal.decreases-constraints
decreases-constraints l = length l.left
