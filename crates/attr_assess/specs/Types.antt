-- The types by which the texts of attributes are read.
use Rattle.std.specs.Prelude.{◌≡◌, ℕ, Some, slice_get}
use Rattle.xs_components.specs.Tables.{Tables}
use Rattle.xs_components.specs.declared.attribute.AttributeDecl.{AttributeDecl}
use Rattle.component_references.specs.Ranked.{IsRanked}
use Rattle.simple_types.specs.Trees.{type_tree}
use Rattle.simple_types.specs.SimpleTypes.{AreTypesOf, AreWhole, IsSimpleTree}
use Rattle.simple_types.specs.declared.types.SimpleTypes.{SimpleTypes}

-- These are the simple types of a schema set whose references go to lower ranks; none of their literals are undefined, and attribute
-- declarations are of simple types.
pub record IsTypeSet (t : Tables) (types : SimpleTypes) : Type 0 where
  pub ranked : IsRanked t
  pub judged : AreTypesOf t types
  pub whole : AreWhole t types
  pub simple : (n : ℕ) (decl : AttributeDecl) → slice_get t.attributes.parts n ≡ Some decl → IsSimpleTree (type_tree t decl.of)
