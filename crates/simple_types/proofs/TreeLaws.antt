-- A type unfolds by one step, where ranks fall.
use Rattle.std.proofs.Common.{◌≡◌, ℕ, ◌+◌, Bool, true, false, [], Option, None, Some, slice_get, slice_index, refl, ap}
use Rattle.std.specs.Prelude.{All}
use Rattle.std.proofs.lemmas.List.Elements.{All-head}
use Rattle.xs_components.specs.Tables.{Tables}
use Rattle.xs_components.specs.declared.common.TypeId.{TypeId}
use Rattle.xs_components.specs.declared.common.TypeId.TheVariants as types
use Rattle.xs_components.specs.declared.simple.SimpleForm.{SimpleForm}
use Rattle.xs_components.specs.declared.simple.SimpleForm.TheVariants.{Restrict, ListOf, UnionOf}
use Rattle.xs_components.specs.declared.simple.SimpleType.{SimpleType}
use Rattle.xs_components.specs.declared.complex.ContentForm.{ContentForm}
use Rattle.xs_components.specs.declared.complex.ContentForm.TheVariants as contents
use Rattle.xs_components.specs.declared.complex.ComplexType.{ComplexType}
use Rattle.component_references.specs.Descent.{AsksLower}
use Rattle.component_references.specs.Heights.{first_height, type_height, IsLower}
use Rattle.component_references.specs.Ranked.{named_types, IsRanked}
use Rattle.component_references.proofs.DescentLaws.{along-is}
use Rattle.component_references.proofs.ListLaws.{map-same}
use Rattle.simple_types.specs.TypeTree.{TypeTree, not_simple, restriction, list_type, union_type, members_of}
use Rattle.simple_types.specs.Trees.{form_tree, part_tree, simple_step, simple_tree, content_form, content_part, content_step, type_tree}

module _ (t : Tables) (ranked : IsRanked t) where
  module _ (height : ℕ) (f g : TypeId → TypeTree) (same : (of : TypeId) → IsLower t height of → f of ≡ g of) where
    form-same : (form : SimpleForm) → All (IsLower t height) (named_types form) → form_tree f form ≡ form_tree g form
    form-same (Restrict base step) low = ap (λ tree. restriction tree step) (same base (All-head (IsLower t height) base [] low))
    form-same (ListOf item) low = ap list_type (same item (All-head (IsLower t height) item [] low))
    form-same (UnionOf members) low = ap (λ trees. union_type (members_of trees)) (map-same (IsLower t height) f g same members low)

  simple-asks : AsksLower (type_height t) not_simple (simple_step t) (λ of. Unit {0})
  simple-asks types.AnyType f g is same = refl
  simple-asks (types.Builtin kind) f g is same = refl
  simple-asks (types.Complex id) f g is same = refl
  simple-asks (types.Simple id) f g is same = of (slice_get t.simples.parts id) refl
    where
      of : (o : Option SimpleType) → slice_get t.simples.parts id ≡ o → part_tree f o ≡ part_tree g o
      of None e = refl
      of (Some part) e =
          form-same (first_height + slice_index t.simples.ranks id) f g (λ y low. same y tt low.lower) part.form (ranked.simples id part e)

  -- a simple type is unfolded by one step
  pub simple_tree_is : (of : TypeId) → simple_tree t of ≡ simple_step t (simple_tree t) of
  unfolding simple_tree
  simple_tree_is of = along-is (type_height t) not_simple (simple_step t) (λ of. Unit {0}) simple-asks of tt

  content_form-same : (f g : TypeId → TypeTree) (by_extension : Bool) (base : TypeId) (form : ContentForm) → f base ≡ g base
      → content_form (simple_tree t) f by_extension base form ≡ content_form (simple_tree t) g by_extension base form
  content_form-same f g true base (contents.Simple own step) same = same
  content_form-same f g true base (contents.Complex None mixed) same = same
  content_form-same f g true base (contents.Complex (Some p) mixed) same = refl
  content_form-same f g false base (contents.Simple None step) same = ap (λ tree. restriction tree step) same
  content_form-same f g false base (contents.Simple (Some own) step) same = refl
  content_form-same f g false base (contents.Complex effective mixed) same = refl

  content-asks : AsksLower (type_height t) not_simple (content_step t) (λ of. Unit {0})
  content-asks types.AnyType f g is same = refl
  content-asks (types.Builtin kind) f g is same = refl
  content-asks (types.Simple id) f g is same = refl
  content-asks (types.Complex id) f g is same = of (slice_get t.complexes.parts id) refl
    where
      of : (o : Option ComplexType) → slice_get t.complexes.parts id ≡ o → content_part (simple_tree t) f o ≡ content_part (simple_tree t) g o
      of None e = refl
      of (Some part) e = content_form-same f g part.by_extension part.base part.content (same part.base tt (ranked.complexes id part e).lower)

  -- and so is the content of a complex type
  pub type_tree_is : (of : TypeId) → type_tree t of ≡ content_step t (type_tree t) of
  unfolding type_tree
  type_tree_is of = along-is (type_height t) not_simple (content_step t) (λ of. Unit {0}) content-asks of tt
