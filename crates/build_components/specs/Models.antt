-- Groups and particles together: particles refer to groups, and groups have particles.
use Rattle.std.specs.Prelude.{ℕ, List, Option, length}
use Rattle.xs_components.specs.Tables.{Tables}
use Rattle.representations.specs.declared.source.Source.{Source}
use Rattle.set_representations.specs.Numbers.{with_parts}
use Rattle.build_components.specs.Groups.{groups, group_numbers}
use Rattle.build_components.specs.Particles.{Particles, particles}

-- where elements have these numbers by place
module _ (source : Source) (elements : List (Option ℕ)) where
  -- the particles that are added to these tables
  abbrev pub particles_for : Tables → Particles
  particles_for t = particles source elements (group_numbers (length t.groups.parts) source.reps.now) (length t.particles.parts)

  -- the tables with the groups and particles more
  abbrev pub with_models : Tables → Tables
  with_models t = record t {
    groups = with_parts t.groups (groups (particles_for t).numbers source.reps.now);
    particles = with_parts t.particles (particles_for t).parts;
  }
