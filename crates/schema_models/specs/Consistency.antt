-- Element Declarations Consistent.
use Rattle.std.specs.Prelude.{◌≡◌, ℕ, Bool, false, List, [], Option, None, Some, ◌⊎◌, map, slice_get, Contains}
use Rattle.xs_components.specs.Heads.{names_of}
use Rattle.xs_components.specs.Tables.{Tables}
use Rattle.xs_components.specs.declared.common.TypeId.{TypeId}
use Rattle.xs_components.specs.declared.particle.Particle.{Particle as Part}
use Rattle.xs_components.specs.declared.particle.Term.{Term}
use Rattle.xs_components.specs.declared.particle.Term.TheVariants.{Element, Any, Group, Sequence, Choice, All}
use Rattle.particle_models.specs.Particles.{Particle, Particles, term, sequence, choice, all_of, occurs, none, member}
use Rattle.particle_models.specs.Unrolled.{is_never}
use Rattle.particle_forms.specs.Models.{model_of}
use Rattle.component_tables.specs.Types.{type_of, given_declaration}
use Rattle.schema_models.specs.declared.agreement.TypedName.{TypedName}

abbrev mutual
  -- the particle of this number is an element or a wildcard of the model; a particle that comes no times has none
  pub IsTermOf : Particle → ℕ → Type 0
  IsTermOf (term number) id = number ≡ id
  IsTermOf (sequence members) id = IsTermIn members id
  IsTermOf (choice members) id = IsTermIn members id
  IsTermOf (all_of members) id = IsTermIn members id
  IsTermOf (occurs least most part) id = (is_never most ≡ false) × IsTermOf part id

  pub IsTermIn : Particles → ℕ → Type 0
  IsTermIn none id = ⊥
  IsTermIn (member first rest) id = IsTermOf first id ⊎ IsTermIn rest id

module _ (members : List (List ℕ)) (t : Tables) where
  -- a name that an element term accepts, with the type of the declaration that it then gives
  abbrev pub typed_name : ℕ → ℕ → TypedName
  typed_name element name = record { name = name; of = type_of t (given_declaration t element name) }

  -- the names of the members of an element's substitution group, itself included, with their types (Structures 3.3.6)
  abbrev pub given_types : ℕ → List TypedName
  given_types element = map (typed_name element) (names_of members element)

  abbrev pub term_types : Term → List TypedName
  term_types (Element element) = given_types element
  term_types (Any wildcard) = []
  term_types (Group group) = []
  term_types (Sequence parts) = []
  term_types (Choice parts) = []
  term_types (All parts) = []

  abbrev pub part_types : Option Part → List TypedName
  part_types None = []
  part_types (Some part) = term_types part.term

  -- the names that the particle of a number accepts where it is an element, with their types
  abbrev pub types_at : ℕ → List TypedName
  types_at id = part_types (slice_get t.particles.parts id)

  -- cos-element-consistent (Structures 3.8.6): element terms of the content model of a particle, the members of their substitution
  -- groups included, that have one name have one type.
  abbrev pub IsConsistent : ℕ → Type 0
  IsConsistent p =
      (i j : ℕ) (x y : TypedName) → IsTermOf (model_of t p) i → IsTermOf (model_of t p) j → Contains (types_at i) x → Contains (types_at j) y →
      x.name ≡ y.name → x.of ≡ y.of

-- ---- for proofs

-- those with the same name have the same type
abbrev pub Agree : List TypedName → Type 0
Agree given = (x y : TypedName) → Contains given x → Contains given y → x.name ≡ y.name → x.of ≡ y.of
