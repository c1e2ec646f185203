-- What is so while the contents of types are set, those of bases first.
use Rattle.std.specs.Prelude.{◌≡◌, ◌≢◌, ℕ, ◌<◌, ◌++◌, List, Bool, true, false, Option, None, Some, length, slice_get, slice_index, IfSome}
use Rattle.xs_components.specs.Tables.{Tables}
use Rattle.xs_components.specs.declared.common.TypeId.{TypeId}
use Rattle.xs_components.specs.declared.common.TypeId.TheVariants.{AnyType, Builtin, Simple, Complex}
use Rattle.xs_components.specs.declared.complex.ComplexType.{ComplexType}
use Rattle.xs_components.specs.declared.particle.Particle.{Particle}
use Rattle.component_references.specs.Ranked.{IsRanked}
use Rattle.component_references.specs.References.{effective_of, IsPart, Each}
use Rattle.type_derivation.specs.Particles.{IsContentAt}

-- the tables with more particles
pub record AreMore (old new : Tables) : Type 0 where
  pub particles : List Particle
  pub ranks : List ℕ
  pub tables : new ≡ record old { particles = record { parts = old.particles.parts ++ particles; ranks = old.particles.ranks ++ ranks } }

-- particles were added, and every reference goes lower; the particle, if it is one, is there
pub record Adds (old new : Tables) (content : Option ℕ) : Type 0 where
  pub more : AreMore old new
  pub ranked : IsRanked new
  pub there : IfSome content (IsPart new.particles)

abbrev pub IsDone : List Bool → ℕ → Type 0
IsDone done n = slice_get done n ≡ Some true

abbrev pub IsBaseDone : List Bool → TypeId → Type 0
IsBaseDone done AnyType = Unit {0}
IsBaseDone done (Builtin kind) = Unit {0}
IsBaseDone done (Simple id) = Unit {0}
IsBaseDone done (Complex id) = IsDone done id

-- each content that is set is a particle that is there
abbrev pub AreContentsThere : Tables → Type 0
AreContentsThere t = (n p : ℕ) → slice_get t.contents n ≡ Some (Some p) → p < length t.particles.parts

-- Those types that are done have their contents, and so have their bases. The others have none yet.
pub record IsFilling (t : Tables) (done : List Bool) : Type 0 where
  pub len : length done ≡ length t.complexes.parts
  pub ranked : IsRanked t
  pub effectives : Each t.complexes (λ part. IfSome (effective_of part.content) (IsPart t.particles))
  pub there : AreContentsThere t
  pub right : (n : ℕ) (part : ComplexType) → slice_get t.complexes.parts n ≡ Some part → IsDone done n → IsContentAt t n part
  pub based : (n : ℕ) (part : ComplexType) → slice_get t.complexes.parts n ≡ Some part → IsDone done n → IsBaseDone done part.base
  pub none : (n : ℕ) → slice_get done n ≡ Some false → slice_get t.contents n ≡ Some None

-- the content of a number is set, and nothing else
pub record Sets (old new : Tables) (number : ℕ) (content : Option ℕ) : Type 0 where
  pub contents : List (Option ℕ)
  pub tables : new ≡ record old { contents = contents }
  pub here : slice_get contents number ≡ Some content
  pub others : (n : ℕ) → n ≢ number → slice_get contents n ≡ slice_get old.contents n

-- numbers from 0 on
pub record AreCounted (count : ℕ) (numbers : List ℕ) : Type 0 where
  pub len : length numbers ≡ count
  pub each : (n : ℕ) → n < length numbers → slice_index numbers n ≡ n
