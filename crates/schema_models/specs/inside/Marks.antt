-- What serves the proofs: marks of particles, and the particles that stand in a schema set.
use Rattle.std.specs.Prelude.{◌≡◌, ℕ, ◌<◌, ◌⊎◌, ◌↔◌, Bool, true, false, List, Some, All, Contains, length, slice_index, slice_index_or}
use Rattle.std.specs.List.Sorted.{IsNonDecreasingBy}
use Rattle.xs_codes.specs.declared.fault.Fault.{Fault}
use Rattle.xs_components.specs.Tables.{Tables}
use Rattle.particle_forms.specs.Models.{group_particle}
use Rattle.schema_models.specs.SetModels.{content_of}
use Rattle.schema_models.specs.AllLimits.{Stands, members_at, IsUnlimitedAt, IsEmptyRepeated}

-- the numbers from 0 on
abbrev pub AreCounted : List ℕ → Type 0
AreCounted numbers = (n : ℕ) → n < length numbers → slice_index numbers n ≡ n

abbrev pub marked : List Bool → ℕ → Bool
marked marks k = slice_index_or marks k false

-- all particles, those of lower rank first
pub record IsByRank (t : Tables) (order : List ℕ) : Type 0 where
  pub there : All (λ p. p < length t.particles.parts) order
  pub each : (p : ℕ) → p < length t.particles.parts → Contains order p
  pub rises : IsNonDecreasingBy (slice_index t.particles.ranks) order

-- those that were marked, and these
pub record IsMarkedMore (P : ℕ → Type 0) (old new : List Bool) : Type 0 where
  pub count : length new ≡ length old
  pub marks : (k : ℕ) → (marked new k ≡ true) ↔ ((marked old k ≡ true) ⊎ P k)

-- the particle of a content, or of a group definition
abbrev pub IsRoot : Tables → ℕ → Type 0
IsRoot t k = ((type : ℕ) × (content_of t type ≡ Some k)) ⊎ ((g : ℕ) × (group_particle t g ≡ Some k))

-- the particles that stand in the set are marked, and no others
pub record AreStanding (t : Tables) (marks : List Bool) : Type 0 where
  pub count : length marks ≡ length t.particles.parts
  pub stand : (k : ℕ) → (marked marks k ≡ true) ↔ Stands t k

-- the members of a marked particle were marked
abbrev pub IsLooked : Tables → ℕ → List Bool → List Bool → Type 0
IsLooked t p old new =
    ((marked old p ≡ true) × IsMarkedMore (Contains (members_at t p)) old new) ⊎ ((marked old p ≡ false) × (new ≡ old))

-- the content of one of the first complex types, and the particle of one of the first groups
abbrev pub IsContentBelow : Tables → ℕ → ℕ → Type 0
IsContentBelow t count k = (type : ℕ) × (type < count) × (content_of t type ≡ Some k)

abbrev pub IsGroupBelow : Tables → ℕ → ℕ → Type 0
IsGroupBelow t count k = (g : ℕ) × (g < count) × (group_particle t g ≡ Some k)

-- when these particles are still to be looked at
pub record IsStandingSoFar (t : Tables) (left : List ℕ) (marks : List Bool) : Type 0 where
  pub count : length marks ≡ length t.particles.parts
  pub there : All (λ p. p < length t.particles.parts) left
  pub rises : IsNonDecreasingBy (slice_index t.particles.ranks) left
  pub sound : (k : ℕ) → marked marks k ≡ true → Stands t k
  pub roots : (k : ℕ) → IsRoot t k → marked marks k ≡ true
  pub members : (p k : ℕ) → p < length t.particles.parts → Contains left p ⊎ (Stands t p → Contains (members_at t p) k → marked marks k ≡ true)

-- a fault of one of these
abbrev pub Among : (ℕ → Fault → Type 0) → List ℕ → Fault → Type 0
Among P ids f = (k : ℕ) × Contains ids k × P k f

-- a fault of a particle that stands in the set, or of an all without members
abbrev pub IsUnlimitedIn : Tables → ℕ → Fault → Type 0
IsUnlimitedIn t p f = (Stands t p × IsUnlimitedAt t p f) ⊎ IsEmptyRepeated t p f

-- of one of the first
abbrev pub IsUnlimitedBelow : Tables → ℕ → Fault → Type 0
IsUnlimitedBelow t count f = (p : ℕ) × (p < count) × IsUnlimitedIn t p f
