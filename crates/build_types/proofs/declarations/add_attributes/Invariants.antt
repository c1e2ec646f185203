use Rattle.std.proofs.Common.{◌≡◌, ◌++◌, drop, length}
use Rattle.std.specs.List.{flat_map}
use Rattle.set_representations.specs.Numbers.{numbers_of, with_parts}
use Rattle.build_types.specs.Declarations as spec
use Rattle.build_types.proofs.declarations.add_attributes.Given as goal

abbrev pub invariant-loop-rep : goal.invariant-loop-rep
invariant-loop-rep l = record {
  ids : l.ids ++ numbers_of (spec.attributes_of l.source l.types) (length l.parts.attributes.parts) (drop l.rep-index l.source.reps.now)
      ≡ numbers_of (spec.attributes_of l.source l.types) (length l.initial.parts.attributes.parts) l.source.reps.now;
  parts : record l.parts { attributes = with_parts l.parts.attributes (flat_map (spec.attributes_of l.source l.types) (drop l.rep-index l.source.reps.now)) }
      ≡ record l.initial.parts { attributes = with_parts l.initial.parts.attributes (flat_map (spec.attributes_of l.source l.types) l.source.reps.now) };
}
