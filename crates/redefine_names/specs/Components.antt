-- What representations declare in the symbol spaces whose components may be redefined (Structures 4.2.2).
use Rattle.std.specs.Prelude.{ℕ, List, Option, None, Some, slice_get}
use Rattle.representations.specs.declared.parts.Represented.{Represented}
use Rattle.representations.specs.declared.parts.Represented.TheVariants as forms
use Rattle.representations.specs.declared.parts.Representation.{Representation}
use Rattle.redefine_names.specs.declared.declared.Declared.{Declared}
use Rattle.redefine_names.specs.declared.declared.VersionKind.TheVariants as kinds

abbrev pub declared_type : Option ℕ → Option Declared
declared_type None = None
declared_type (Some name) = Some (record { kind = kinds.Type; name = name })

-- types with a name, groups and attribute groups
abbrev pub declared_by : Represented → Option Declared
declared_by (forms.SimpleType name finals) = declared_type name
declared_by (forms.ComplexType head) = declared_type head.name
declared_by (forms.Group name) = Some (record { kind = kinds.Group; name = name })
declared_by (forms.AttributeGroup name) = Some (record { kind = kinds.AttributeGroup; name = name })
declared_by _ = None

abbrev pub declared_in : Option Representation → Option Declared
declared_in None = None
declared_in (Some rep) = declared_by rep.form

-- what the representation at a place declares
abbrev pub declared_at : List Representation → ℕ → Option Declared
declared_at reps place = declared_in (slice_get reps place)
