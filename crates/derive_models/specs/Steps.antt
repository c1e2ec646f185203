-- Terms and marks one after another.
use Rattle.std.specs.Prelude.{◌≡◌, ◌↔◌, ℕ, ◌+◌, ◌<◌, Bool, true, false, List, [], Option, Some, All as Each, length, slice_get, slice_index_or}
use Rattle.xs_names.specs.Names.{NameTable}
use Rattle.xs_components.specs.Tables.{Tables}
use Rattle.xs_components.specs.declared.common.Wildcard.{Wildcard}
use Rattle.xs_components.specs.declared.complex.ComplexType.{ComplexType}
use Rattle.xs_components.specs.declared.element.ElementDecl.{ElementDecl}
use Rattle.xs_components.specs.declared.particle.Particle.{Particle as Part}
use Rattle.xs_components.specs.declared.particle.Term.TheVariants as declared
use Rattle.particle_restrict.specs.Tables.{HasType}
use Rattle.particle_restrict.specs.declared.terms.Space.{Space}
use Rattle.particle_restrict.specs.declared.terms.Term.{Term}
use Rattle.particle_restrict.specs.declared.terms.Term.TheVariants.{Element, Any}
use Rattle.derive_models.specs.AnyType.{any_particle}
use Rattle.derive_models.specs.Standing.{stands_for}
use Rattle.derive_models.specs.Terms.{declaration_of, IsElementType}

-- the particle, if there is one, is marked, and the others are as they were
pub record IsMarked (old : List Bool) (particle : Option ℕ) (new : List Bool) : Type 0 where
  pub each : length new ≡ length old
  pub itself : (p : ℕ) → particle ≡ Some p → slice_index_or new p false ≡ true
  pub others : (p : ℕ) → (particle ≡ Some p → ⊥) → slice_index_or new p false ≡ slice_index_or old p false

-- these are the terms of the first element declarations
pub record AreElements (t : Tables) (names : NameTable) (fixed : List (Option ℕ)) (count : ℕ) (terms : List Term) : Type 0 where
  pub each : length terms ≡ count
  pub right : (n : ℕ) (part : ElementDecl) → n < count → slice_get t.elements.parts n ≡ Some part → slice_get terms n ≡ Some (Element (declaration_of t names fixed n part))
  pub types : Each (HasType (IsElementType t)) terms

-- the space of the particle of a number is its wildcard, if it is one
abbrev pub IsSpaceAt : Tables → List Bool → ℕ → Space → Type 0
IsSpaceAt t flags n space = (part : Part) (wildcard : Wildcard) → slice_get t.particles.parts n ≡ Some part → part.term ≡ declared.Any wildcard →
    space ≡ record { wildcard = wildcard; of_any_type = slice_index_or flags n false }

-- behind the terms are those of the first particles
pub record AreSpaces (t : Tables) (flags : List Bool) (count : ℕ) (old new : List Term) : Type 0 where
  pub each : length new ≡ length old + count
  pub kept : (n : ℕ) → n < length old → slice_get new n ≡ slice_get old n
  pub right : (n : ℕ) → n < count → (space : Space) × IsSpaceAt t flags n space × (slice_get new (length old + n) ≡ Some (Any space))
  pub types : Each (HasType (IsElementType t)) new

-- the particle is the wildcard of anyType's content in one of the first complex types
abbrev pub IsOfAnyTypeBelow : Tables → ℕ → ℕ → Type 0
IsOfAnyTypeBelow t count particle = (n : ℕ) × (part : ComplexType) × (n < count) × (slice_get t.complexes.parts n ≡ Some part) × (any_particle t n part ≡ Some particle)

-- the flags tell of the first complex types
pub record AreFlags (t : Tables) (count : ℕ) (flags : List Bool) : Type 0 where
  pub each : length flags ≡ length t.particles.parts
  pub right : (particle : ℕ) → (slice_index_or flags particle false ≡ true) ↔ IsOfAnyTypeBelow t count particle

-- the terms of the first particles
pub record AreFirstStanding (t : Tables) (members : List (List ℕ)) (count : ℕ) (all : List (List ℕ)) : Type 0 where
  pub each : length all ≡ count
  pub right : (particle : ℕ) → particle < count → slice_index_or all particle [] ≡ stands_for t members particle
