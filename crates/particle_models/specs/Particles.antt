-- Content models (Structures 3.8 and 3.9), with each group reference replaced by the group's own particle.
use Rattle.std.specs.Prelude.{ℕ, List, Option}

mutual
  -- A particle: a term, which is an element declaration or a wildcard, by the number of its particle; a group of members; or
  -- so many occurrences of one of these.
  pub data Particle : Type 0 where
    term : (number : ℕ) → Particle
    sequence : (members : Particles) → Particle
    choice : (members : Particles) → Particle
    all_of : (members : Particles) → Particle
    occurs : (least : ℕ) (most : Option ℕ) (part : Particle) → Particle

  -- the members of a group, in order
  pub data Particles : Type 0 where
    none : Particles
    member : (first : Particle) (rest : Particles) → Particles

-- which member of which member and so on a particle is
abbrev pub Path : Type 0
Path = List ℕ

-- The place of a term: its path in the model, and the number of its particle.
pub record Place : Type 0 where
  pub path : Path
  pub number : ℕ

-- a name, marked with the place of the term that accepts it
pub record Mark (Name : Type 0) : Type 0 where
  pub place : Place
  pub name : Name
