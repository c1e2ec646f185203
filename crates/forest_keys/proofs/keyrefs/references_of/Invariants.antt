use Rattle.std.proofs.Common.{◌≡◌, ◌++◌, length, map}
use Rattle.key_records.specs.References.{AreReferences, refers}
use Rattle.forest_keys.specs.inside.Keyrefs.{key_in}
use Rattle.forest_keys.proofs.keyrefs.references_of.Given as goal

abbrev pub invariant-constraints : goal.invariant-constraints
invariant-constraints l = record {
  sound : AreReferences l.references;
  so_far : refers l.references ++ map key_in l.left ≡ map key_in l.parts.constraints.parts;
}

abbrev pub decreases-constraints : goal.decreases-constraints
decreases-constraints l = length l.left
