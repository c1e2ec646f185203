-- Content models read off the tables of components (Structures 3.8.1 and 3.9.1), with each group reference replaced by the
-- group's own particle.
use Rattle.std.specs.Prelude.{ℕ, Option, None, Some, map, slice_get, slice_index, option_and_then}
use Rattle.xs_components.specs.Tables.{Tables}
use Rattle.xs_components.specs.declared.particle.Particle.{Particle as Part}
use Rattle.xs_components.specs.declared.particle.Term.{Term}
use Rattle.xs_components.specs.declared.particle.Term.TheVariants.{Element, Any, Group, Sequence, Choice, All}
use Rattle.component_references.specs.Descent.{along}
use Rattle.particle_models.specs.Particles.{Particle, term, sequence, choice, all_of, occurs, none}
use Rattle.particle_models.specs.Nodes.{members_of}

-- a model without a word, in the place of what is not there
abbrev pub no_model : Particle
no_model = choice none

-- the particle of a model group definition (Structures 3.7.1)
abbrev pub group_particle : Tables → ℕ → Option ℕ
group_particle t group = option_and_then (λ part. part.particle) (slice_get t.groups.parts group)

module _ (t : Tables) (model : ℕ → Particle) where
  -- the model of a group's own particle
  abbrev pub group_model : Option ℕ → Particle
  group_model None = no_model
  group_model (Some particle) = model particle

  -- The model of a term. An element declaration or a wildcard goes by the number of its particle.
  abbrev pub term_model : ℕ → Term → Particle
  term_model id (Element element) = term id
  term_model id (Any wildcard) = term id
  term_model id (Group group) = group_model (group_particle t group)
  term_model id (Sequence members) = sequence (members_of (map model members))
  term_model id (Choice members) = choice (members_of (map model members))
  term_model id (All members) = all_of (members_of (map model members))

  -- the model of a particle: so many occurrences of its term
  abbrev pub part_model : ℕ → Option Part → Particle
  part_model id None = no_model
  part_model id (Some part) = occurs part.min part.max (term_model id part.term)

  abbrev pub model_step : ℕ → Particle
  model_step id = part_model id (slice_get t.particles.parts id)

-- The content model of the particle of a number.
unfoldable pub model_of : Tables → ℕ → Particle
model_of t id = along (slice_index t.particles.ranks) no_model (model_step t) id
