use Rattle.std.proofs.Common.{◌≡◌, ◌++◌, drop, length}
use Rattle.std.specs.List.{flat_map}
use Rattle.set_representations.specs.Numbers.{numbers_of, with_parts}
use Rattle.build_components.specs.Constraints as spec
use Rattle.build_components.proofs.constraints.add_keys.Given as goal

abbrev pub invariant-loop-rep : goal.invariant-loop-rep
invariant-loop-rep l = record {
  ids : l.ids ++ numbers_of (spec.keys_of l.source) (length l.parts.constraints.parts) (drop l.rep-index l.source.reps.now)
      ≡ numbers_of (spec.keys_of l.source) (length l.initial.parts.constraints.parts) l.source.reps.now;
  parts : record l.parts { constraints = with_parts l.parts.constraints (flat_map (spec.keys_of l.source) (drop l.rep-index l.source.reps.now)) }
      ≡ record l.initial.parts { constraints = with_parts l.initial.parts.constraints (flat_map (spec.keys_of l.source) l.source.reps.now) };
}
