use Rattle.std.proofs.Common.{◌≡◌, ◌++◌, drop, length}
use Rattle.std.specs.List.{flat_map}
use Rattle.set_representations.specs.Numbers.{numbers_of, with_parts}
use Rattle.build_components.specs.Groups as spec
use Rattle.build_components.proofs.groups.add_groups.Given as goal

abbrev pub invariant-loop-rep : goal.invariant-loop-rep
invariant-loop-rep l = record {
  ids : l.ids ++ numbers_of spec.bare_groups (length l.parts.groups.parts) (drop l.rep-index l.reps) ≡ numbers_of spec.bare_groups (length l.initial.parts.groups.parts) l.reps;
  parts : record l.parts { groups = with_parts l.parts.groups (flat_map spec.bare_groups (drop l.rep-index l.reps)) }
      ≡ record l.initial.parts { groups = with_parts l.initial.parts.groups (flat_map spec.bare_groups l.reps) };
}
