-- What elements are judged by.
use Rattle.std.specs.Prelude.{◌≡◌, true, List}
use Rattle.xs_components.specs.Tables.{Tables}
use Rattle.xs_components.specs.declared.common.TypeId.{TypeId}
use Rattle.component_references.specs.Heights.{IsType}
use Rattle.component_references.specs.Ranked.{IsRanked}
use Rattle.simple_types.specs.SimpleTypes.{AreTypesOf, IsWhole}
use Rattle.simple_types.specs.declared.types.SimpleTypes.{SimpleTypes}
use Rattle.component_tables.specs.ContentTypes.{AreContentsOf, content_of}
use Rattle.component_tables.specs.declared.content_types.ContentType.{ContentType}
use Rattle.elem_assess.specs.Texts.{is_simple_content}

-- References go to parts of lower rank; the content types and the simple types were found of these components; and the literals of
-- every type that is there and has simple content are known.
pub record IsSource (t : Tables) (contents : List ContentType) (types : SimpleTypes) : Type 0 where
  pub ranked : IsRanked t
  pub contents_are : AreContentsOf t contents
  pub types_are : AreTypesOf t types
  pub whole : (of : TypeId) → IsType t of → is_simple_content (content_of t of) ≡ true → IsWhole types of
