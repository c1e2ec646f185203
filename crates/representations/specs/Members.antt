-- What stands in an element of a schema document.
use Rattle.std.specs.Prelude.{ℕ, Bool, true, false, List, Option, None, Some, slice_get}
use Rattle.representations.specs.declared.parts.Represented.{Represented}
use Rattle.representations.specs.declared.parts.Represented.TheVariants as forms
use Rattle.representations.specs.declared.parts.Representation.{Representation}

abbrev pub is_type : Represented → Bool
is_type (forms.SimpleType name finals) = true
is_type (forms.ComplexType head) = true
is_type _ = false

abbrev pub is_type_in : Option Representation → Bool
is_type_in None = false
is_type_in (Some rep) = is_type rep.form

-- a type stands at the place
abbrev pub is_type_at : List Representation → ℕ → Bool
is_type_at reps place = is_type_in (slice_get reps place)
