-- By which methods no type is derived from a type.
use Rattle.std.specs.Prelude.{false, Option, None, Some, slice_get}
use Rattle.xs_components.specs.Tables.{Tables}
use Rattle.xs_components.specs.declared.common.Methods.{Methods}
use Rattle.xs_components.specs.declared.common.TypeId.{TypeId}
use Rattle.xs_components.specs.declared.common.TypeId.TheVariants.{AnyType, Builtin, Simple, Complex}
use Rattle.xs_components.specs.declared.simple.SimpleType.{SimpleType}
use Rattle.xs_components.specs.declared.complex.ComplexType.{ComplexType}

abbrev pub no_methods : Methods
no_methods = record { extension = false; restriction = false; substitution = false; by_list = false; by_union = false }

abbrev pub simple_finals : Option SimpleType → Methods
simple_finals None = no_methods
simple_finals (Some part) = part.finals

abbrev pub complex_finals : Option ComplexType → Methods
complex_finals None = no_methods
complex_finals (Some part) = part.finals

-- the {final} of a type (Structures 3.4.1, 3.14.1); that of anyType and of the built-in types is empty
abbrev pub finals_of : Tables → TypeId → Methods
finals_of t AnyType = no_methods
finals_of t (Builtin kind) = no_methods
finals_of t (Simple id) = simple_finals (slice_get t.simples.parts id)
finals_of t (Complex id) = complex_finals (slice_get t.complexes.parts id)
