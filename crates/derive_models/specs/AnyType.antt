-- The wildcard of anyType's content (Structures 3.4.7), in the contents of types that extend anyType.
use Rattle.std.specs.Prelude.{◌≡◌, ℕ, ◌<◌, Option, None, Some, Bool, true, false, if◌then◌else◌, ◌&&◌, length, slice_get}
use Rattle.std.specs.Option.{option_and_then}
use Rattle.xs_components.specs.Tables.{Tables}
use Rattle.xs_components.specs.declared.common.TypeId.{TypeId}
use Rattle.xs_components.specs.declared.common.TypeId.TheVariants.{AnyType, Builtin, Simple, Complex}
use Rattle.xs_components.specs.declared.complex.ComplexType.{ComplexType}
use Rattle.xs_components.specs.declared.complex.ContentForm.{ContentForm}
use Rattle.xs_components.specs.declared.complex.ContentForm.TheVariants as forms
use Rattle.component_references.specs.Ranked.{held_particles}

abbrev pub is_any_type : TypeId → Bool
is_any_type AnyType = true
is_any_type (Builtin kind) = false
is_any_type (Simple id) = false
is_any_type (Complex id) = false

-- the particle of the content of a complex type
abbrev pub content_particle : Tables → ℕ → Option ℕ
content_particle t id = option_and_then (λ particle. particle) (slice_get t.contents id)

-- the first of the particles that a group holds
abbrev pub first_member : Tables → ℕ → Option ℕ
first_member t id = option_and_then (λ part. slice_get (held_particles part.term) 0) (slice_get t.particles.parts id)

-- what the content of an extension has of its base: all of it, or, where it has effective content of its own, the first member of
-- the sequence of both
abbrev pub part_of_base : Tables → ContentForm → ℕ → Option ℕ
part_of_base t (forms.Simple own step) content = None
part_of_base t (forms.Complex None mixed) content = Some content
part_of_base t (forms.Complex (Some effective) mixed) content = first_member t content

-- the one member of anyType's content, of which an extension of anyType has its own
abbrev pub any_particle : Tables → ℕ → ComplexType → Option ℕ
any_particle t n part =
    if part.by_extension && is_any_type part.base then option_and_then (first_member t) (option_and_then (part_of_base t part.content) (content_particle t n)) else None

-- the particle is the wildcard of anyType's content
abbrev pub IsOfAnyType : Tables → ℕ → Type 0
IsOfAnyType t particle = (n : ℕ) × (part : ComplexType) × (slice_get t.complexes.parts n ≡ Some part) × (any_particle t n part ≡ Some particle)

-- the particles of contents are there
abbrev pub AreContentsThere : Tables → Type 0
AreContentsThere t = (n p : ℕ) → slice_get t.contents n ≡ Some (Some p) → n < length t.complexes.parts → p < length t.particles.parts
