use Rattle.std.proofs.Common.{◌≡◌, ◌≤◌, drop, length}
use Rattle.set_representations.specs.Numbers.{with_parts}
use Rattle.build_components.specs.Particles as spec
use Rattle.build_components.proofs.particles.add_particles.Given as goal

abbrev pub invariant-back : goal.invariant-back
invariant-back l = record {
  within : l.place ≤ length l.source.reps.now;
  ids : l.ids.items ≡ spec.padded l.place (spec.particles_from l.source l.elements l.groups (length l.initial.parts.particles.parts) l.place (drop l.place l.source.reps.now)).numbers;
  parts : l.parts ≡ record l.initial.parts { particles = with_parts l.initial.parts.particles (spec.particles_from l.source l.elements l.groups (length l.initial.parts.particles.parts) l.place (drop l.place l.source.reps.now)).parts };
}

abbrev pub decreases-back : goal.decreases-back
decreases-back l = l.place
