use Rattle.std.proofs.Common.{◌≡◌, ◌++◌, drop}
use Rattle.std.specs.List.{flat_map}
use Rattle.build_types.specs.Groups as spec
use Rattle.build_types.proofs.groups.attr_groups.Given as goal

abbrev pub invariant-loop-rep : goal.invariant-loop-rep
invariant-loop-rep l = l.bodies.items ++ flat_map (spec.attr_groups_of l.source l.attributes l.groups) (drop l.rep-index l.source.reps.now) ≡ spec.attr_groups l.source l.attributes l.groups
