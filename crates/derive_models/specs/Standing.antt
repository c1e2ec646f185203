-- The terms that the particle of a number stands for: an element for the members of its substitution group (Structures 3.3.6), by
-- their names, itself first; a wildcard for itself.
use Rattle.std.specs.Prelude.{◌≡◌, ℕ, ◌+◌, List, [], ◌∷◌, Option, None, Some, map, length, slice_get, slice_index_or}
use Rattle.xs_components.specs.Tables.{Tables}
use Rattle.xs_components.specs.declared.particle.Particle.{Particle as Part}
use Rattle.xs_components.specs.declared.particle.Term.{Term}
use Rattle.xs_components.specs.declared.particle.Term.TheVariants.{Element, Any, Group, Sequence, Choice, All}
use Rattle.xs_components.specs.Heads.{names_of}
use Rattle.component_tables.specs.Types.{given_declaration}

module _ (t : Tables) (members : List (List ℕ)) where
  abbrev pub stands_by : ℕ → Term → List ℕ
  stands_by particle (Element element) = map (given_declaration t element) (names_of members element)
  stands_by particle (Any wildcard) = (length t.elements.parts + particle) ∷ []
  stands_by particle (Group group) = []
  stands_by particle (Sequence parts) = []
  stands_by particle (Choice parts) = []
  stands_by particle (All parts) = []

  abbrev pub stands_in : ℕ → Option Part → List ℕ
  stands_in particle None = []
  stands_in particle (Some part) = stands_by particle part.term

  abbrev pub stands_for : ℕ → List ℕ
  stands_for particle = stands_in particle (slice_get t.particles.parts particle)

  -- these are the terms of all particles, by number
  abbrev pub AreStanding : List (List ℕ) → Type 0
  AreStanding all = (particle : ℕ) → slice_index_or all particle [] ≡ stands_for particle
