-- Content models that may come without any element.
use Rattle.std.specs.Prelude.{ℕ, Bool, true, false, Option, None, Some, slice_get}
use Rattle.std.specs.Option.{option_and_then}
use Rattle.xs_components.specs.Tables.{Tables}
use Rattle.xs_components.specs.declared.common.TypeId.{TypeId}
use Rattle.xs_components.specs.declared.common.TypeId.TheVariants.{AnyType, Builtin, Simple, Complex}
use Rattle.particle_forms.specs.Models.{model_of}
use Rattle.particle_forms.specs.Ranges.{is_emptiable}

-- the particle of the content of a complex type
abbrev pub particle_of : Tables → ℕ → Option ℕ
particle_of t id = option_and_then (λ particle. particle) (slice_get t.contents id)

abbrev pub is_emptiable_particle : Tables → Option ℕ → Bool
is_emptiable_particle t None = true
is_emptiable_particle t (Some particle) = is_emptiable (model_of t particle)

-- Particle Emptiable (Structures 3.9.6), of the content model of a type; that of anyType is
abbrev pub has_emptiable_model : Tables → TypeId → Bool
has_emptiable_model t AnyType = true
has_emptiable_model t (Builtin kind) = false
has_emptiable_model t (Simple id) = false
has_emptiable_model t (Complex id) = is_emptiable_particle t (particle_of t id)
