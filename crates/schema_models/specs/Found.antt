-- The particles of a content model, as they are met.
use Rattle.std.specs.Prelude.{◌≡◌, ◌≢◌, ℕ, Bool, true, false, ◌+◌, ◌<◌, ◌⊎◌, List, [], Option, None, Some, if◌then◌else◌, All as Each, Contains, length, slice_get}
use Rattle.xs_components.specs.Tables.{Tables}
use Rattle.xs_components.specs.declared.common.TypeId.{TypeId}
use Rattle.xs_components.specs.declared.particle.Particle.{Particle as Part}
use Rattle.xs_components.specs.declared.particle.Term.{Term}
use Rattle.xs_components.specs.declared.particle.Term.TheVariants.{Element, Any, Group, Sequence, Choice, All}
use Rattle.particle_models.specs.Unrolled.{is_never}
use Rattle.particle_forms.specs.Models.{model_of}
use Rattle.particle_forms.specs.Made.{term_parts, size, work}
use Rattle.schema_models.specs.declared.agreement.TypedName.{TypedName}
use Rattle.schema_models.specs.Consistency.{IsTermOf, given_types}

module _ (t : Tables) where
  abbrev pub live_part_parts : Option Part → List ℕ
  live_part_parts None = []
  live_part_parts (Some part) = if is_never part.max then [] else term_parts t part.term

  -- the particles right below the particle of a number, where it comes at all
  abbrev pub live_parts : ℕ → List ℕ
  live_parts id = live_part_parts (slice_get t.particles.parts id)

  -- a particle was met, and what is right below it waits unless it was met before
  pub record IsVisit (id : ℕ) (old new waiting after : List ℕ) : Type 0 where
    pub kept : (y : ℕ) → Contains old y → Contains new y
    pub itself : Contains new id
    pub others : (y : ℕ) → Contains new y → Contains old y ⊎ (y ≡ id)
    pub waits : (y : ℕ) → Contains waiting y → Contains after y
    pub added : (y : ℕ) → Contains after y → Contains waiting y ⊎ Contains (live_parts id) y
    pub below : Contains old id ⊎ Each (Contains after) (live_parts id)
    pub less : work t after < work t waiting + size (model_of t id)

  -- these particles are there, and have all terms of the model of the root and no others
  pub record AreModelParts (root : ℕ) (found : List ℕ) : Type 0 where
    pub there : Each (λ id. id < length t.particles.parts) found
    pub every : (id : ℕ) → IsTermOf (model_of t root) id → Contains found id × IsTermOf (model_of t id) id
    pub only : (y id : ℕ) → Contains found y → IsTermOf (model_of t y) id → IsTermOf (model_of t root) id

abbrev pub term_element : Term → Option ℕ
term_element (Element element) = Some element
term_element (Any wildcard) = None
term_element (Group group) = None
term_element (Sequence parts) = None
term_element (Choice parts) = None
term_element (All parts) = None

-- the element that a particle is, where it comes at all
abbrev pub live_element : Part → Option ℕ
live_element part = if is_never part.max then None else term_element part.term

module _ (members : List (List ℕ)) (t : Tables) where
  abbrev pub types_of : Option ℕ → List TypedName
  types_of None = []
  types_of (Some element) = given_types members t element

  abbrev pub live_part_types : Option Part → List TypedName
  live_part_types None = []
  live_part_types (Some part) = types_of (live_element part)

  -- the names that the particle of a number accepts where it is an element and comes at all, with their types
  abbrev pub live_types : ℕ → List TypedName
  live_types id = live_part_types (slice_get t.particles.parts id)

-- the type of a name is noted, or another was noted before
pub record Notes (old new : ℕ → Option TypeId) (one : TypedName) (agrees : Bool) : Type 0 where
  pub own : agrees ≡ true → new one.name ≡ Some one.of
  pub others : (name : ℕ) → name ≢ one.name → new name ≡ old name
  pub known : agrees ≡ true → (of : TypeId) → old one.name ≡ Some of → of ≡ one.of
  pub other : agrees ≡ false → (of : TypeId) × (old one.name ≡ Some of) × (of ≢ one.of)
