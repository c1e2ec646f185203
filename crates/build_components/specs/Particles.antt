-- All particles, and their numbers by place. They are added from the last to the first: what stands in an element stands behind
-- it, so that it has its number before.
use Rattle.std.specs.Prelude.{ℕ, zero, suc, ◌+◌, List, [], ◌∷◌, ◌++◌, Option, None, length}
use Rattle.xs_components.specs.declared.particle.Particle.{Particle}
use Rattle.representations.specs.declared.parts.Representation.{Representation}
use Rattle.representations.specs.declared.source.Source.{Source}
use Rattle.set_representations.specs.Numbers.{number_of}
use Rattle.build_components.specs.Terms.{particles_of}

-- the particles of representations, and the number of each by place
pub record Particles : Type 0 where
  pub parts : List Particle
  pub numbers : List (Option ℕ)

-- so many places without a number before the others
abbrev pub padded : ℕ → List (Option ℕ) → List (Option ℕ)
padded zero numbers = numbers
padded (suc places) numbers = None ∷ padded places numbers

-- where elements and groups have these numbers by place, and so many particles are there before
module _ (source : Source) (elements groups : List (Option ℕ)) (before : ℕ) where
  -- what stands at a place, where these stand behind
  abbrev pub particles_at : ℕ → Representation → Particles → List Particle
  particles_at place rep behind = particles_of source elements groups (padded (suc place) behind.numbers) place rep

  abbrev pub with_next : ℕ → Representation → Particles → Particles
  with_next place rep behind = record {
    parts = behind.parts ++ particles_at place rep behind;
    numbers = number_of (particles_at place rep behind) (before + length behind.parts) ∷ behind.numbers;
  }

  -- the particles from a place on
  abbrev pub particles_from : ℕ → List Representation → Particles
  particles_from place [] = record { parts = []; numbers = [] }
  particles_from place (rep ∷ reps) = with_next place rep (particles_from (suc place) reps)

  abbrev pub particles : Particles
  particles = particles_from 0 source.reps.now
