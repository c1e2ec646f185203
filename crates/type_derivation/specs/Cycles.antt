-- The faults that keep ranks from being given, and what is written where there are none.
use Rattle.std.specs.Prelude.{◌≡◌, ℕ, ◌⊎◌, ◌++◌, List, Option}
use Rattle.xs_codes.specs.declared.fault.Fault.{Fault}
use Rattle.xs_components.specs.Tables.{Tables}
use Rattle.xs_components.specs.declared.particle.Particle.{Particle}
use Rattle.type_derivation.specs.Bases.{IsWrongBase}
use Rattle.component_references.specs.Circles.{IsCircular}

-- a circular definition, or a base of the wrong kind
abbrev pub IsBroken : Tables → Fault → Type 0
IsBroken t fault = IsCircular t fault ⊎ IsWrongBase t fault

-- the tables with other contents of types, and with particles added
pub record IsGrown (old new : Tables) : Type 0 where
  pub contents : List (Option ℕ)
  pub particles : List Particle
  pub ranks : List ℕ
  pub tables : new ≡ record old { contents = contents; particles = record { parts = old.particles.parts ++ particles; ranks = old.particles.ranks ++ ranks } }
