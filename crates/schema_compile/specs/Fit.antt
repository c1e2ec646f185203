-- What later phases and the assessment ask of compiled components.
use Rattle.std.specs.Prelude.{◌≡◌, ℕ, ◌<◌, true, Some, IfSome, length, slice_get}
use Rattle.xs_names.specs.Numbering.{HasNoRepeats}
use Rattle.xs_components.specs.declared.attribute.AttributeDecl.{AttributeDecl}
use Rattle.xs_components.specs.declared.common.TypeId.{TypeId}
use Rattle.xs_components.specs.declared.element.ElementDecl.{ElementDecl}
use Rattle.component_references.specs.Heights.{IsType}
use Rattle.component_references.specs.Ranked.{IsRanked}
use Rattle.type_derivation.specs.Within.{AreSimple}
use Rattle.elem_assess.specs.Own.{AreOwnSimple}
use Rattle.simple_types.specs.Trees.{type_tree}
use Rattle.simple_types.specs.SimpleTypes.{AreTypesOf, AreWhole, IsWhole, IsSimpleTree}
use Rattle.component_tables.specs.ContentTypes.{content_of}
use Rattle.elem_assess.specs.Texts.{is_simple_content}
use Rattle.schema_check.specs.declared.documents.CompiledSet.{CompiledSet}
use Rattle.compiled_schema.specs.Usable.{AreNamed}

-- References go to parts of lower rank; what simple types are made of is simple; the types of elements and attributes are there, and
-- those of attributes are made of simple ones alone; the table has each name once, and elements, attributes and types have names of it;
-- the simple types are those of the components, and the literals of every simple type and of every type with simple content are known;
-- what stands in simple contents is there and simple; the particles of contents are there.
pub record IsFit (made : CompiledSet) : Type 0 where
  pub ranked : IsRanked made.parts
  pub simple : AreSimple made.parts
  pub types : (n : ℕ) (part : ElementDecl) → slice_get made.parts.elements.parts n ≡ Some part → IfSome part.of (IsType made.parts)
  pub attributes : (n : ℕ) (decl : AttributeDecl) → slice_get made.parts.attributes.parts n ≡ Some decl → IsType made.parts decl.of
  pub readable : (n : ℕ) (decl : AttributeDecl) → slice_get made.parts.attributes.parts n ≡ Some decl → IsSimpleTree (type_tree made.parts decl.of)
  pub once : HasNoRepeats made.names.names
  pub named : AreNamed made.names made.parts
  pub judged : AreTypesOf made.parts made.types
  pub literals : AreWhole made.parts made.types
  pub whole : (of : TypeId) → IsType made.parts of → is_simple_content (content_of made.parts of) ≡ true → IsWhole made.types of
  pub own : AreOwnSimple made.parts
  pub contents : (n p : ℕ) → slice_get made.parts.contents n ≡ Some (Some p) → n < length made.parts.complexes.parts → p < length made.parts.particles.parts
