use Rattle.std.proofs.Common.{◌≡◌, ◌++◌, drop, length}
use Rattle.std.specs.List.{flat_map}
use Rattle.set_representations.specs.Numbers.{numbers_of, with_parts}
use Rattle.build_types.specs.Groups as spec
use Rattle.build_types.proofs.groups.number_attr_groups.Given as goal

abbrev pub invariant-loop-rep : goal.invariant-loop-rep
invariant-loop-rep l = record {
  ids : l.ids ++ numbers_of spec.empty_groups (length l.parts.attr_groups.parts) (drop l.rep-index l.reps) ≡ numbers_of spec.empty_groups (length l.initial.parts.attr_groups.parts) l.reps;
  parts : record l.parts { attr_groups = with_parts l.parts.attr_groups (flat_map spec.empty_groups (drop l.rep-index l.reps)) }
      ≡ record l.initial.parts { attr_groups = with_parts l.initial.parts.attr_groups (flat_map spec.empty_groups l.reps) };
}
