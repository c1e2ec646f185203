-- What is asked of a schema set for its value constraints to be judged.
use Rattle.std.specs.Prelude.{◌≡◌, ◌⊎◌, ℕ, ◌<◌, true, List, Some, IfSome, length, slice_get}
use Rattle.xs_codes.specs.declared.builtin.Builtin.TheVariants.{Id}
use Rattle.xs_components.specs.Tables.{Tables}
use Rattle.xs_components.specs.declared.attribute.AttributeDecl.{AttributeDecl}
use Rattle.xs_components.specs.declared.common.TypeId.{TypeId}
use Rattle.xs_components.specs.declared.common.TypeId.TheVariants.{Builtin}
use Rattle.xs_components.specs.declared.complex.ComplexType.{ComplexType}
use Rattle.xs_components.specs.declared.complex.ContentForm.TheVariants as forms
use Rattle.xs_components.specs.declared.element.ElementDecl.{ElementDecl}
use Rattle.xs_components.specs.declared.simple.FacetItem.{FacetItem}
use Rattle.component_references.specs.Heights.{IsType}
use Rattle.component_references.specs.Ranked.{IsRanked}
use Rattle.component_tables.specs.ContentTypes.{AreContentsOf, content_of}
use Rattle.component_tables.specs.declared.content_types.ContentType.TheVariants.{SimpleType, SimpleContent}
use Rattle.component_tables.specs.Types.{AreDeclarationsOf}
use Rattle.particle_forms.specs.Ranges.{AreRangesOf}
use Rattle.type_derivation.specs.Derives.{is_simple}
use Rattle.type_derivation.specs.Within.{AreSimple, AreWithin}
use Rattle.simple_types.specs.SimpleTypes.{AreTypesOf, IsWhole}
use Rattle.simple_types.specs.declared.types.SimpleTypes.{SimpleTypes}
use Rattle.derive_faults.specs.declared.set.ValueSet.{ValueSet}

-- References go to lower ranks, what simple types are made of is simple, and so are the types that stand in restrictions of simple
-- content; these, the types of attributes and of elements and the particles of contents are there.
pub record AreGiven (t : Tables) : Type 0 where
  pub ranked : IsRanked t
  pub simple : AreSimple t
  pub attributes : (n : ℕ) (decl : AttributeDecl) → slice_get t.attributes.parts n ≡ Some decl → IsType t decl.of
  pub elements : (n : ℕ) (part : ElementDecl) → slice_get t.elements.parts n ≡ Some part → IfSome part.of (IsType t)
  pub own : (n : ℕ) (part : ComplexType) (own : TypeId) (step : List FacetItem) → slice_get t.complexes.parts n ≡ Some part → part.content ≡ forms.Simple (Some own) step → IsType t own × (is_simple own ≡ true)
  pub contents : (n p : ℕ) → slice_get t.contents n ≡ Some (Some p) → n < length t.complexes.parts → p < length t.particles.parts

-- These are the simple types, and the literals of the types of attributes and of types with simple content are known.
pub record AreRead (t : Tables) (types : SimpleTypes) : Type 0 where
  pub judged : AreTypesOf t types
  pub attributes : (n : ℕ) (decl : AttributeDecl) → slice_get t.attributes.parts n ≡ Some decl → IsWhole types decl.of
  pub contents : (of : TypeId) → IsType t of → (content_of t of ≡ SimpleType) ⊎ (content_of t of ≡ SimpleContent) → IsWhole types of

-- what is found of the components is so
pub record IsFound (set : ValueSet) : Type 0 where
  pub given : AreGiven set.parts.now
  pub declarations : AreDeclarationsOf set.parts.now set.declarations.now
  pub contents : AreContentsOf set.parts.now set.contents.now
  pub ranges : AreRangesOf set.parts.now set.ranges.now
  pub within : AreWithin set.parts.now set.ids.now
  pub of_id : set.ids.now.base ≡ Builtin Id
