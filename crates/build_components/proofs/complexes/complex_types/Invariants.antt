use Rattle.std.proofs.Common.{◌≡◌, ◌++◌, drop}
use Rattle.build_components.specs.Complexes as spec
use Rattle.build_components.proofs.complexes.complex_types.Given as goal

abbrev pub invariant-loop-place : goal.invariant-loop-place
invariant-loop-place l = l.bodies.items ++ spec.complexes_from l.source l.numbers.types.now l.numbers.attributes.now l.numbers.groups.now l.numbers.particles.now l.place (drop l.place l.source.reps.now) ≡ spec.complex_types l.source l.numbers.types.now l.numbers.attributes.now l.numbers.groups.now l.numbers.particles.now
