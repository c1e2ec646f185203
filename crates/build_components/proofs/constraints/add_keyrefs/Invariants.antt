use Rattle.std.proofs.Common.{◌≡◌, ◌++◌, drop, length}
use Rattle.std.specs.List.{flat_map}
use Rattle.set_representations.specs.Numbers.{numbers_of, with_parts}
use Rattle.build_components.specs.Constraints as spec
use Rattle.build_components.proofs.constraints.add_keyrefs.Given as goal

abbrev pub invariant-loop-rep : goal.invariant-loop-rep
invariant-loop-rep l = record {
  ids : l.ids ++ numbers_of (spec.keyrefs_of l.source l.keys) (length l.parts.constraints.parts) (drop l.rep-index l.source.reps.now)
      ≡ numbers_of (spec.keyrefs_of l.source l.keys) (length l.initial.parts.constraints.parts) l.source.reps.now;
  parts : record l.parts { constraints = with_parts l.parts.constraints (flat_map (spec.keyrefs_of l.source l.keys) (drop l.rep-index l.source.reps.now)) }
      ≡ record l.initial.parts { constraints = with_parts l.initial.parts.constraints (flat_map (spec.keyrefs_of l.source l.keys) l.source.reps.now) };
}
