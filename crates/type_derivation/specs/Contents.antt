-- The content type of a complex type (Structures 3.4.2), where types may be derived in circles.
use Rattle.std.specs.Prelude.{◌≡◌, ℕ, Some, slice_get}
use Rattle.xs_codes.specs.declared.builtin.Builtin.{Builtin as Built}
use Rattle.xs_components.specs.Tables.{Tables}
use Rattle.xs_components.specs.declared.common.TypeId.{TypeId}
use Rattle.xs_components.specs.declared.common.TypeId.TheVariants.{AnyType, Builtin, Simple, Complex}
use Rattle.xs_components.specs.declared.complex.ComplexType.{ComplexType}
use Rattle.component_tables.specs.ContentTypes.{form_content}
use Rattle.component_tables.specs.declared.content_types.ContentType.{ContentType}
use Rattle.component_tables.specs.declared.content_types.ContentType.TheVariants.{SimpleType, Mixed}

-- The content type of a type: that of anyType is mixed (Structures 3.4.7); that of a complex type is told by its form, whatever its base
-- has, or by its form over the content type of its base. A type whose bases come back to themselves before any of them tells its own
-- has none.
pub data HasContent (t : Tables) : TypeId → ContentType → Type 0 where
  of_any : HasContent t AnyType Mixed
  of_built_in : (kind : Built) → HasContent t (Builtin kind) SimpleType
  of_simple : (id : ℕ) → HasContent t (Simple id) SimpleType
  own : (id : ℕ) (part : ComplexType) (content : ContentType) → slice_get t.complexes.parts id ≡ Some part
      → ((base : ContentType) → form_content part.by_extension part.content base ≡ content) → HasContent t (Complex id) content
  inherited : (id : ℕ) (part : ComplexType) (base : ContentType) → slice_get t.complexes.parts id ≡ Some part → HasContent t part.base base
      → HasContent t (Complex id) (form_content part.by_extension part.content base)
