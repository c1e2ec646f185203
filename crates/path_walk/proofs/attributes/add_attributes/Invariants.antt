use Rattle.std.proofs.Common.{◌≡◌, ◌<◌, ◌++◌, List, length}
use Rattle.std.specs.Prelude.{All}
use Rattle.std.specs.List.{flat_map}
use Rattle.identity_constraints.specs.Seen.{KeyAttribute}
use Rattle.identity_constraints.specs.Targets.{FieldNode, attribute_at}
use Rattle.path_walk.specs.Sight.{attributes_of, seen}
use Rattle.path_walk.specs.inside.Nodes.{AreAdded}
use Rattle.path_walk.proofs.attributes.add_attributes.Given as goal

abbrev pub invariant-attrs : goal.invariant-attrs
invariant-attrs l = record {
  named : All (λ (a : KeyAttribute). a.name < length l.set.names.now.names) (attributes_of l.attrs l.values);
  done : List FieldNode;
  added : AreAdded l.set.parts.now done l.initial.nodes l.nodes;
  all : flat_map (attribute_at l.set.names.now l.field l.way) (seen l.own).attributes ≡ done ++ flat_map (attribute_at l.set.names.now l.field l.way) (attributes_of l.attrs l.values);
}

abbrev pub decreases-attrs : goal.decreases-attrs
decreases-attrs l = length l.attrs
