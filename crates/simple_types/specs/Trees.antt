-- The types of a schema set, unfolded: Structures 3.14.2, and 3.4.2 for simple content.
use Rattle.std.specs.Prelude.{Bool, true, false, Option, None, Some, map, slice_get}
use Rattle.xs_components.specs.Tables.{Tables}
use Rattle.xs_components.specs.declared.common.TypeId.{TypeId}
use Rattle.xs_components.specs.declared.common.TypeId.TheVariants as types
use Rattle.xs_components.specs.declared.simple.SimpleForm.{SimpleForm}
use Rattle.xs_components.specs.declared.simple.SimpleForm.TheVariants.{Restrict, ListOf, UnionOf}
use Rattle.xs_components.specs.declared.simple.SimpleType.{SimpleType}
use Rattle.xs_components.specs.declared.complex.ContentForm.{ContentForm}
use Rattle.xs_components.specs.declared.complex.ContentForm.TheVariants as contents
use Rattle.xs_components.specs.declared.complex.ComplexType.{ComplexType}
use Rattle.component_references.specs.Descent.{along}
use Rattle.component_references.specs.Heights.{type_height}
use Rattle.simple_types.specs.TypeTree.{TypeTree, not_simple, built_in, restriction, list_type, union_type, members_of}

module _ (tree : TypeId → TypeTree) where
  -- 3.14.2: a restriction of the base, a list of the item type, or a union of the member types
  abbrev pub form_tree : SimpleForm → TypeTree
  form_tree (Restrict base step) = restriction (tree base) step
  form_tree (ListOf item) = list_type (tree item)
  form_tree (UnionOf members) = union_type (members_of (map tree members))

  abbrev pub part_tree : Option SimpleType → TypeTree
  part_tree None = not_simple
  part_tree (Some part) = form_tree part.form

abbrev pub simple_step : Tables → (TypeId → TypeTree) → TypeId → TypeTree
simple_step t tree types.AnyType = not_simple
simple_step t tree (types.Builtin kind) = built_in kind
simple_step t tree (types.Simple id) = part_tree tree (slice_get t.simples.parts id)
simple_step t tree (types.Complex id) = not_simple

-- a simple type, unfolded
unfoldable pub simple_tree : Tables → TypeId → TypeTree
simple_tree t of = along (type_height t) not_simple (simple_step t) of

module _ (simple content : TypeId → TypeTree) where
  -- what simple content restricts: the simple type that stands in it, or else the content of the base
  abbrev pub restricted_tree : Option TypeId → TypeId → TypeTree
  restricted_tree None base = content base
  restricted_tree (Some own) base = simple own

  -- 3.4.2: by extension the content of the base; by restriction that of the base or the simple type that stands in it,
  -- restricted by the facets. Complex content has it too, where it extends such a base and has no particle of its own.
  abbrev pub content_form : Bool → TypeId → ContentForm → TypeTree
  content_form true base (contents.Simple own step) = content base
  content_form true base (contents.Complex None mixed) = content base
  content_form false base (contents.Simple own step) = restriction (restricted_tree own base) step
  content_form _ base (contents.Complex _ mixed) = not_simple

  abbrev pub content_part : Option ComplexType → TypeTree
  content_part None = not_simple
  content_part (Some part) = content_form part.by_extension part.base part.content

abbrev pub content_step : Tables → (TypeId → TypeTree) → TypeId → TypeTree
content_step t content (types.Complex id) = content_part (simple_tree t) content (slice_get t.complexes.parts id)
content_step t content of = simple_tree t of

-- a simple type, or the simple content of a complex type, unfolded
unfoldable pub type_tree : Tables → TypeId → TypeTree
type_tree t of = along (type_height t) not_simple (content_step t) of
