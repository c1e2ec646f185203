-- The particles that contents add, to the number (Structures 3.4.2): the types come by rank, and those of one rank by number; each adds what
-- its content needs behind all particles that there are.
use Rattle.std.specs.Prelude.{◌≡◌, ℕ, suc, ◌+◌, ◌<◌, ◌⊎◌, max, ◌++◌, ◌∷◌, [], List, Bool, true, false, Option, None, Some, All, Contains, length, slice_get, slice_index, slice_index_or, slice_set}
use Rattle.xs_components.specs.Tables.{Tables}
use Rattle.xs_components.specs.declared.common.Place.{Place}
use Rattle.xs_components.specs.declared.common.TypeId.{TypeId}
use Rattle.xs_components.specs.declared.common.TypeId.TheVariants.{AnyType, Builtin, Simple, Complex}
use Rattle.xs_components.specs.declared.complex.ComplexType.{ComplexType}
use Rattle.xs_components.specs.declared.particle.Particle.{Particle}
use Rattle.xs_components.specs.declared.particle.Term.TheVariants.{Sequence}
use Rattle.xs_codes.specs.declared.fault.Fault.{Fault}
use Rattle.component_references.specs.Circles.{HaveHeights}
use Rattle.component_references.specs.References.{effective_of}
use Rattle.type_derivation.specs.Cycles.{IsGrown}
use Rattle.type_derivation.specs.Particles.{once, any_elements, goes_on}

-- the tables with a particle more, of this rank
abbrev pub with_particle : Tables → Particle → ℕ → Tables
with_particle t part rank = record t { particles = record { parts = t.particles.parts ++ part ∷ []; ranks = t.particles.ranks ++ rank ∷ [] } }

-- the least rank above that of a particle
abbrev pub above : Tables → ℕ → ℕ
above t p = suc (slice_index t.particles.ranks p)

-- a sequence of two particles more
abbrev pub with_sequence : Tables → Place → ℕ → ℕ → Tables
with_sequence t at first second = with_particle t (once at (Sequence (first ∷ second ∷ []))) (max (above t first) (above t second))

-- a particle more, and a sequence of it
abbrev pub with_alone : Tables → Place → Particle → Tables
with_alone t at part = with_particle (with_particle t part 0) (once at (Sequence (length t.particles.parts ∷ []))) (above (with_particle t part 0) (length t.particles.parts))

-- tables, and the particle of a content in them, if it has one
pub record Content : Type 0 where
  pub tables : Tables
  pub particle : Option ℕ

-- these are they
pub record IsContent (c : Content) (t : Tables) (particle : Option ℕ) : Type 0 where
  pub tables : t ≡ c.tables
  pub content : particle ≡ c.particle

-- the content of a base; that of anyType (Structures 3.4.7) is added
abbrev pub base_filled : Tables → Place → TypeId → Content
base_filled t at AnyType = record { tables = with_alone t at (any_elements at); particle = Some (length t.particles.parts + 1) }
base_filled t at (Builtin kind) = record { tables = t; particle = None }
base_filled t at (Simple id) = record { tables = t; particle = None }
base_filled t at (Complex id) = record { tables = t; particle = slice_index_or t.contents id None }

-- the content of an extension; where both have one, a sequence of them is added
abbrev pub extended_filled : Tables → Place → Option ℕ → Option ℕ → Content
extended_filled t at None effective = record { tables = t; particle = effective }
extended_filled t at (Some base) None = record { tables = t; particle = Some base }
extended_filled t at (Some base) (Some effective) = record { tables = with_sequence t at base effective; particle = Some (length t.particles.parts) }

abbrev pub extension_filled : Content → Place → Option ℕ → Content
extension_filled base at effective = extended_filled base.tables at base.particle effective

abbrev pub derived_filled : Tables → Bool → Place → TypeId → Option ℕ → Content
derived_filled t false at base effective = record { tables = t; particle = effective }
derived_filled t true at base effective = extension_filled (base_filled t at base) at effective

-- the content of a complex type
abbrev pub part_filled : Tables → ComplexType → Content
part_filled t part = derived_filled t (goes_on part.by_extension part.content) part.at part.base (effective_of part.content)

-- the content is that of the complex type of a number
abbrev pub with_content : Tables → ℕ → Option ℕ → Tables
with_content t n None = t
with_content t n (Some p) = record t { contents = slice_set t.contents n (Some p) }

abbrev pub number_filled : Tables → ℕ → Option ComplexType → Tables
number_filled t n None = t
number_filled t n (Some part) = with_content (part_filled t part).tables n (part_filled t part).particle

-- the complex type of a number has its content
abbrev pub type_filled : Tables → ℕ → Tables
type_filled t n = number_filled t n (slice_get t.complexes.parts n)

-- and so have types one after another
abbrev pub all_filled : Tables → List ℕ → Tables
all_filled t [] = t
all_filled t (n ∷ ns) = all_filled (type_filled t n) ns

-- one type before another: by rank, and of one rank by number
abbrev pub IsBefore : List ℕ → ℕ → ℕ → Type 0
IsBefore ranks m n = (slice_index ranks m < slice_index ranks n) ⊎ ((slice_index ranks m ≡ slice_index ranks n) × (m < n))

-- all numbers, in this order
pub record IsTypeOrder (count : ℕ) (ranks order : List ℕ) : Type 0 where
  pub there : All (λ n. n < count) order
  pub each : (n : ℕ) → n < count → Contains order n
  pub rises : (j k : ℕ) → j < k → k < length order → IsBefore ranks (slice_index order j) (slice_index order k)

-- the tables where all types have their contents
pub record IsFilled (old new : Tables) : Type 0 where
  pub order : List ℕ
  pub ordered : IsTypeOrder (length old.complexes.parts) old.complexes.ranks order
  pub filled : new ≡ all_filled old order
  pub grown : IsGrown old new

-- ranks are heights, and all types have their contents
pub record IsCompleted (old new : Tables) : Type 0 where
  pub heights : HaveHeights old
  pub filled : IsFilled old new

-- Ranks were written. Where no fault was found they are heights, and all types have their contents; else nothing else was written.
abbrev pub IsAfter : Option Fault → Tables → Tables → Type 0
IsAfter None old new = IsCompleted old new
IsAfter (Some fault) old new = new ≡ old
