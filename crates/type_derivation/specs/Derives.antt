-- Steps of derivation: the type that a type is derived from, and by which method; the members of a union.
use Rattle.std.specs.Prelude.{ℕ, List, [], Bool, true, false, Option, None, Some, slice_get, slice_index, if◌then◌else◌}
use Rattle.std.specs.Option.{option_and_then}
use Rattle.simple_values.specs.Builtins as builtins
use Rattle.xs_codes.specs.declared.builtin.Builtin.{Builtin as Built}
use Rattle.xs_codes.specs.declared.builtin.Builtin.TheVariants.{AnySimpleType}
use Rattle.xs_components.specs.Tables.{Tables}
use Rattle.xs_components.specs.declared.common.Methods.{Methods}
use Rattle.xs_components.specs.declared.common.TypeId.{TypeId}
use Rattle.xs_components.specs.declared.common.TypeId.TheVariants.{AnyType, Builtin, Simple, Complex}
use Rattle.xs_components.specs.declared.complex.ComplexType.{ComplexType}
use Rattle.xs_components.specs.declared.simple.SimpleForm.{SimpleForm}
use Rattle.xs_components.specs.declared.simple.SimpleForm.TheVariants.{Restrict, ListOf, UnionOf}
use Rattle.xs_components.specs.declared.simple.SimpleType.{SimpleType}
use Rattle.component_references.specs.Descent.{along}

-- the type is a simple one
abbrev pub is_simple : TypeId → Bool
is_simple AnyType = false
is_simple (Builtin b) = true
is_simple (Simple id) = true
is_simple (Complex id) = false

abbrev pub above_builtin : Option Built → TypeId
above_builtin None = AnyType
above_builtin (Some base) = Builtin base

-- anySimpleType is derived from anyType (Structures 3.14.7), another built-in type from its base type (Datatypes 3)
abbrev pub builtin_base : Built → TypeId
builtin_base b = above_builtin (builtins.base_of b)

-- a list or a union is derived from anySimpleType (Structures 3.14.2)
abbrev pub simple_base : SimpleForm → TypeId
simple_base (Restrict base step) = base
simple_base (ListOf item) = Builtin AnySimpleType
simple_base (UnionOf members) = Builtin AnySimpleType

module _ (simple : ℕ → List TypeId) where
  abbrev pub type_members : TypeId → List TypeId
  type_members AnyType = []
  type_members (Builtin b) = []
  type_members (Simple id) = simple id
  type_members (Complex id) = []

  -- a restriction of a union is a union, of the same members
  abbrev pub form_members : SimpleForm → List TypeId
  form_members (Restrict base step) = type_members base
  form_members (ListOf item) = []
  form_members (UnionOf members) = members

  abbrev pub members_in : Option SimpleType → List TypeId
  members_in None = []
  members_in (Some part) = form_members part.form

unfoldable pub simple_members : Tables → ℕ → List TypeId
simple_members t n = along (slice_index t.simples.ranks) [] (λ simple n. members_in simple (slice_get t.simples.parts n)) n

-- the {member type definitions} of a union (Structures 3.14.1)
abbrev pub members_of : Tables → TypeId → List TypeId
members_of t of = type_members (simple_members t) of

-- a type, unless the method is excluded
abbrev pub unless : Bool → TypeId → Option TypeId
unless excluded base = if excluded then None else Some base

-- the method of a complex type is extension or restriction (Structures 3.4.1)
abbrev pub above_complex : Methods → ComplexType → Option TypeId
above_complex excluded part = if part.by_extension then unless excluded.extension part.base else unless excluded.restriction part.base

-- The {base type definition} of a type (Structures 3.4.1, 3.14.1), where its {derivation method} is none of these; that of every
-- type that is not complex is restriction.
abbrev pub above : Tables → Methods → TypeId → Option TypeId
above t excluded AnyType = None
above t excluded (Builtin b) = unless excluded.restriction (builtin_base b)
above t excluded (Simple id) = option_and_then (λ part. unless excluded.restriction (simple_base part.form)) (slice_get t.simples.parts id)
above t excluded (Complex id) = option_and_then (above_complex excluded) (slice_get t.complexes.parts id)
