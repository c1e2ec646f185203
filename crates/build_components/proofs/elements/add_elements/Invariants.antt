use Rattle.std.proofs.Common.{◌≡◌, ◌++◌, drop, length}
use Rattle.std.specs.List.{flat_map}
use Rattle.set_representations.specs.Numbers.{numbers_of, with_parts}
use Rattle.build_components.specs.Elements as spec
use Rattle.build_components.proofs.elements.add_elements.Given as goal

abbrev pub invariant-loop-rep : goal.invariant-loop-rep
invariant-loop-rep l = record {
  ids : l.ids ++ numbers_of (spec.headless l.source l.types l.constraints) (length l.parts.elements.parts) (drop l.rep-index l.source.reps.now)
      ≡ numbers_of (spec.headless l.source l.types l.constraints) (length l.initial.parts.elements.parts) l.source.reps.now;
  parts : record l.parts { elements = with_parts l.parts.elements (flat_map (spec.headless l.source l.types l.constraints) (drop l.rep-index l.source.reps.now)) }
      ≡ record l.initial.parts { elements = with_parts l.initial.parts.elements (flat_map (spec.headless l.source l.types l.constraints) l.source.reps.now) };
}
