use Rattle.std.proofs.Common.{◌≡◌, ◌++◌, drop}
use Rattle.std.specs.List.{flat_map}
use Rattle.build_types.specs.SimpleTypes as spec
use Rattle.build_types.proofs.simples.simple_types.Given as goal

abbrev pub invariant-loop-rep : goal.invariant-loop-rep
invariant-loop-rep l = l.bodies.items ++ flat_map (spec.simples_of l.source l.types) (drop l.rep-index l.source.reps.now) ≡ spec.simple_types l.source l.types
