-- The content type of a type (Structures 3.4.1, 3.4.2).
use Rattle.std.specs.Prelude.{◌≡◌, ℕ, Bool, true, false, List, Option, None, Some, slice_get, slice_index, slice_index_or}
use Rattle.xs_components.specs.Tables.{Tables}
use Rattle.xs_components.specs.declared.common.TypeId.{TypeId}
use Rattle.xs_components.specs.declared.common.TypeId.TheVariants.{AnyType, Builtin, Simple, Complex}
use Rattle.xs_components.specs.declared.complex.ComplexType.{ComplexType}
use Rattle.xs_components.specs.declared.complex.ContentForm.{ContentForm}
use Rattle.xs_components.specs.declared.complex.ContentForm.TheVariants as forms
use Rattle.component_references.specs.Descent.{along}
use Rattle.component_tables.specs.declared.content_types.ContentType.{ContentType}
use Rattle.component_tables.specs.declared.content_types.ContentType.TheVariants.{SimpleType, Empty, SimpleContent, ElementOnly, Mixed}

-- content with a model of its own is mixed where the type is
abbrev pub model_content : Bool → ContentType
model_content true = Mixed
model_content false = ElementOnly

-- the content type that an extension without content of its own has from its base
abbrev pub taken : ContentType → ContentType
taken SimpleType = SimpleContent
taken Empty = Empty
taken SimpleContent = SimpleContent
taken ElementOnly = ElementOnly
taken Mixed = Mixed

-- Without effective content a restriction is empty, and an extension has the content of its base.
abbrev pub effective_content : Bool → Option ℕ → Bool → ContentType → ContentType
effective_content by_extension (Some particle) mixed base = model_content mixed
effective_content true None mixed base = taken base
effective_content false None mixed base = Empty

abbrev pub form_content : Bool → ContentForm → ContentType → ContentType
form_content by_extension (forms.Simple own step) base = SimpleContent
form_content by_extension (forms.Complex effective mixed) base = effective_content by_extension effective mixed base

module _ (complex : ℕ → ContentType) where
  -- that of anyType is mixed (Structures 3.4.7)
  abbrev pub type_content : TypeId → ContentType
  type_content AnyType = Mixed
  type_content (Builtin kind) = SimpleType
  type_content (Simple id) = SimpleType
  type_content (Complex id) = complex id

  abbrev pub part_content : Option ComplexType → ContentType
  part_content None = Empty
  part_content (Some part) = form_content part.by_extension part.content (type_content part.base)

-- of the complex type of a number
unfoldable pub complex_content : Tables → ℕ → ContentType
complex_content t n = along (slice_index t.complexes.ranks) Empty (λ complex n. part_content complex (slice_get t.complexes.parts n)) n

-- the content type of a type
abbrev pub content_of : Tables → TypeId → ContentType
content_of t of = type_content (complex_content t) of

abbrev pub known : List ContentType → ℕ → ContentType
known table n = slice_index_or table n Empty

-- these are the content types of all complex types of the tables
abbrev pub AreContentsOf : Tables → List ContentType → Type 0
AreContentsOf t table = (n : ℕ) → known table n ≡ complex_content t n
