-- Types that are or derive from ID, and content of such types.
use Rattle.std.specs.Prelude.{◌≡◌, ℕ, Bool, true, false, Option, None, Some, slice_get}
use Rattle.std.specs.Option.{option_and_then}
use Rattle.xs_codes.specs.declared.builtin.Builtin.TheVariants.{Id}
use Rattle.xs_components.specs.Tables.{Tables}
use Rattle.xs_components.specs.declared.common.TypeId.{TypeId}
use Rattle.xs_components.specs.declared.common.TypeId.TheVariants.{AnyType, Builtin, Simple, Complex}
use Rattle.xs_components.specs.declared.complex.ComplexType.{ComplexType}
use Rattle.xs_components.specs.declared.complex.ContentForm.{ContentForm}
use Rattle.xs_components.specs.declared.complex.ContentForm.TheVariants as forms
use Rattle.component_references.specs.Heights.{type_height}
use Rattle.type_derivation.specs.Chains.{Derives}
use Rattle.type_derivation.specs.Derives.{is_simple}
use Rattle.derive_faults.specs.Finals.{no_methods}

-- the type is or derives from ID
abbrev pub IsIdType : Tables → TypeId → Type 0
IsIdType t of = Derives t no_methods of (Builtin Id)

-- the simple type that stands in a restriction of simple content, else the base
abbrev pub restricted : Option TypeId → TypeId → Option TypeId
restricted None base = Some base
restricted (Some own) base = Some own

module _ (base : TypeId) where
  abbrev pub form_source : Bool → ContentForm → Option TypeId
  form_source true (forms.Simple own step) = Some base
  form_source true (forms.Complex None mixed) = Some base
  form_source true (forms.Complex (Some particle) mixed) = None
  form_source false (forms.Simple own step) = restricted own base
  form_source false (forms.Complex effective mixed) = None

-- The type whose content the content of a complex type is, or restricts by facets (Structures 3.4.2): by extension the base, unless
-- there is a particle; by restriction of simple content the simple type that stands in it, else the base.
abbrev pub content_source : ComplexType → Option TypeId
content_source part = form_source part.base part.by_extension part.content

-- the type is simple, and is or derives from ID
abbrev pub IsSimpleId : Tables → TypeId → Type 0
IsSimpleId t of = (is_simple of ≡ true) × IsIdType t of

-- the simple type that the content of a type is of is or derives from ID
pub data HasIdContent (t : Tables) : TypeId → Type 0 where
  of_simple : (of : TypeId) → IsSimpleId t of → HasIdContent t of
  of_source : (id : ℕ) (part : ComplexType) (source : TypeId) → slice_get t.complexes.parts id ≡ Some part → content_source part ≡ Some source → HasIdContent t source → HasIdContent t (Complex id)

-- ---- for proofs

-- the type whose content the content of a type is, if there is one
abbrev pub source_of : Tables → TypeId → Option TypeId
source_of t AnyType = None
source_of t (Builtin kind) = None
source_of t (Simple id) = None
source_of t (Complex id) = option_and_then content_source (slice_get t.complexes.parts id)

-- complex types stand above what their contents are made of
abbrev pub content_height : Tables → TypeId → ℕ
content_height t AnyType = 0
content_height t (Builtin kind) = 0
content_height t (Simple id) = 0
content_height t (Complex id) = type_height t (Complex id)
