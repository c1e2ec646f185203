use Rattle.std.proofs.Common.{◌≡◌, ℕ, ◌<◌, Some, drop, length}
use Rattle.xs_components.specs.Changes.{with_particle}
use Rattle.set_representations.specs.Numbers.{number_at}
use Rattle.set_representations.specs.inside.Changes.{changes}
use Rattle.build_components.specs.Groups as spec
use Rattle.build_components.proofs.groups.set_group_particles.Given as goal

abbrev pub invariant-loop-place : goal.invariant-loop-place
invariant-loop-place l = record {
  there : (place n : ℕ) → number_at l.groups place ≡ Some n → n < length l.parts.groups.parts;
  parts : record l.parts { groups = record l.parts.groups { parts = changes with_particle (spec.particle_of l.particles) l.parts.groups.parts (drop l.place l.groups) (drop l.place l.reps) } }
      ≡ record l.initial.parts { groups = record l.initial.parts.groups { parts = changes with_particle (spec.particle_of l.particles) l.initial.parts.groups.parts l.groups l.reps } };
}
