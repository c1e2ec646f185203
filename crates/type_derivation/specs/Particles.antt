-- The particle of the content of a complex type (Structures 3.4.2, {content type}).
use Rattle.std.specs.Prelude.{◌≡◌, ℕ, Bool, true, false, [], ◌∷◌, Option, None, Some, slice_get}
use Rattle.xs_components.specs.declared.namespace_constraint.NsConstraint.TheVariants as namespaces
use Rattle.xs_components.specs.Tables.{Tables}
use Rattle.xs_components.specs.declared.common.Place.{Place}
use Rattle.xs_components.specs.declared.common.Process.TheVariants.{Lax}
use Rattle.xs_components.specs.declared.common.TypeId.{TypeId}
use Rattle.xs_components.specs.declared.common.TypeId.TheVariants.{AnyType, Builtin, Simple, Complex}
use Rattle.xs_components.specs.declared.common.Wildcard.{Wildcard}
use Rattle.xs_components.specs.declared.complex.ComplexType.{ComplexType}
use Rattle.xs_components.specs.declared.complex.ContentForm.{ContentForm}
use Rattle.xs_components.specs.declared.complex.ContentForm.TheVariants as forms
use Rattle.xs_components.specs.declared.particle.Particle.{Particle}
use Rattle.xs_components.specs.declared.particle.Term.{Term}
use Rattle.xs_components.specs.declared.particle.Term.TheVariants.{Any, Sequence}
use Rattle.component_references.specs.References.{effective_of}

-- the particle of a term that comes once
abbrev pub once : Place → Term → Particle
once at term = record { at = at; min = 1; max = Some 1; term = term }

abbrev pub any_wildcard : Wildcard
any_wildcard = record { namespaces = namespaces.Any; process = Lax }

-- elements of any name, any number of times
abbrev pub any_elements : Place → Particle
any_elements at = record { at = at; min = 0; max = None; term = Any any_wildcard }

-- Structures 3.4.7: the content of anyType, a sequence of these
abbrev pub IsAnything : Tables → Place → ℕ → Type 0
IsAnything t at id =
    (any : ℕ) × (slice_get t.particles.parts any ≡ Some (any_elements at))
    × (slice_get t.particles.parts id ≡ Some (once at (Sequence (any ∷ []))))

-- the particle of the base's content, if it has one
abbrev pub IsBaseContent : Tables → Place → TypeId → Option ℕ → Type 0
IsBaseContent t at AnyType content = (id : ℕ) × IsAnything t at id × (content ≡ Some id)
IsBaseContent t at (Builtin kind) content = content ≡ None
IsBaseContent t at (Simple id) content = content ≡ None
IsBaseContent t at (Complex id) content = slice_get t.contents id ≡ Some content

-- an extension: the base's content where it has none of its own, its own where the base has none, else a sequence of both
abbrev pub IsExtended : Tables → Place → Option ℕ → Option ℕ → Option ℕ → Type 0
IsExtended t at None effective content = content ≡ effective
IsExtended t at (Some base) None content = content ≡ Some base
IsExtended t at (Some base) (Some effective) content = (id : ℕ) × (slice_get t.particles.parts id ≡ Some (once at (Sequence (base ∷ effective ∷ [])))) × (content ≡ Some id)

abbrev pub IsDerivedContent : Tables → Bool → Place → TypeId → Option ℕ → Option ℕ → Type 0
IsDerivedContent t false at base effective content = content ≡ effective
IsDerivedContent t true at base effective content = (inner : Option ℕ) × IsBaseContent t at base inner × IsExtended t at inner effective content

-- an extension with complex content goes on from the content of its base
abbrev pub goes_on : Bool → ContentForm → Bool
goes_on by_extension (forms.Simple own step) = false
goes_on by_extension (forms.Complex effective mixed) = by_extension

-- the content of a type: simple content has no particle
abbrev pub IsContentOf : Tables → Bool → Place → TypeId → ContentForm → Option ℕ → Type 0
IsContentOf t by_extension at base form content = IsDerivedContent t (goes_on by_extension form) at base (effective_of form) content

-- this is the content of the complex type of a number
abbrev pub IsContentAt : Tables → ℕ → ComplexType → Type 0
IsContentAt t n part = (content : Option ℕ) × (slice_get t.contents n ≡ Some content) × IsContentOf t part.by_extension part.at part.base part.content content

-- each complex type has the particle of its content; simple content, and content without a particle, has none
abbrev pub AreContentsSet : Tables → Type 0
AreContentsSet t = (n : ℕ) (part : ComplexType) → slice_get t.complexes.parts n ≡ Some part → IsContentAt t n part
