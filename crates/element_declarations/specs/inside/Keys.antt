-- The properties of element declarations by keys.
use Rattle.std.specs.Prelude.{◌≡◌, ℕ, ◌⊎◌, Bool, true, false, Option, None, Some, IfSome, length, slice_get}
use Rattle.xs_components.specs.Tables.{Tables}
use Rattle.xs_components.specs.declared.common.TypeId.{TypeId}
use Rattle.xs_components.specs.declared.common.ValueConstraint.{ValueConstraint}
use Rattle.xs_components.specs.declared.element.ElementDecl.{ElementDecl}
use Rattle.component_references.specs.Heights.{IsType}
use Rattle.component_references.specs.Ranked.{IsRanked}
use Rattle.component_tables.specs.ContentTypes.{AreContentsOf, content_of}
use Rattle.component_tables.specs.declared.content_types.ContentType.TheVariants.{SimpleType, SimpleContent}
use Rattle.component_tables.specs.Types.{AreDeclarationsOf, type_of}
use Rattle.simple_values.specs.Same.{key_value}
use Rattle.simple_values.specs.declared.key.Key.{Key}
use Rattle.simple_values.specs.declared.value.Value.{Value}
use Rattle.simple_types.specs.SimpleTypes.{AreTypesOf, IsWhole}
use Rattle.simple_types.specs.declared.types.SimpleTypes.{SimpleTypes}
use Rattle.element_declarations.specs.Values.{HasValue}
use Rattle.element_declarations.specs.declared.properties.Properties.{Properties}
use Rattle.element_declarations.specs.declared.set.ElementSet.{ElementSet}
use Rattle.element_declarations.specs.declared.values.ValueKey.{ValueKey}
use Rattle.element_declarations.specs.declared.values.ValueKey.TheVariants.{Absent, Default, Fixed}

-- what is found of the components is so
pub record IsFound (set : ElementSet) : Type 0 where
  pub ranked : IsRanked set.parts.now
  pub elements : (n : ℕ) (part : ElementDecl) → slice_get set.parts.now.elements.parts n ≡ Some part → IfSome part.of (IsType set.parts.now)
  pub declarations : AreDeclarationsOf set.parts.now set.declarations.now
  pub contents : AreContentsOf set.parts.now set.contents.now

-- these are the simple types, and the literals of the simple types and of simple content are known
pub record AreRead (t : Tables) (types : SimpleTypes) : Type 0 where
  pub judged : AreTypesOf t types
  pub whole : (of : TypeId) → IsType t of → (content_of t of ≡ SimpleType) ⊎ (content_of t of ≡ SimpleContent) → IsWhole types of

abbrev pub key_with : Bool → Key → ValueKey
key_with true key = Fixed key
key_with false key = Default key

abbrev pub constraint_key : Bool → Option Key → Option ValueKey
constraint_key fixed None = None
constraint_key fixed (Some key) = Some (key_with fixed key)

-- the key of a constraint, where its text is valid
abbrev pub IsReadKey : Tables → ℕ → ValueConstraint → Option ValueKey → Type 0
IsReadKey t element constraint None = (value : Value) → HasValue t element constraint value → ⊥
IsReadKey t element constraint (Some key) = (value : Value) × HasValue t element constraint value × (key ≡ key_with constraint.fixed (key_value value))

abbrev pub IsConstraintKey : Tables → ℕ → Option ValueConstraint → Option ValueKey → Type 0
IsConstraintKey t element None key = key ≡ Some Absent
IsConstraintKey t element (Some constraint) key = IsReadKey t element constraint key

-- the key of the value constraint of a declaration, where its text is valid
pub record IsValueKey (t : Tables) (element : ℕ) (key : Option ValueKey) : Type 0 where
  pub part : ElementDecl
  pub is : slice_get t.elements.parts element ≡ Some part
  pub read : IsConstraintKey t element part.value key

abbrev pub HasNoConstraints : Tables → ℕ → Type 0
HasNoConstraints t element = (part : ElementDecl) → slice_get t.elements.parts element ≡ Some part → length part.constraints ≡ 0

abbrev pub joined : ElementDecl → TypeId → ValueKey → Properties
joined part of value = record {
  name = part.name;
  of = of;
  value = value;
  nillable = part.nillable;
  is_abstract = part.is_abstract;
  finals = part.finals;
  blocks = part.blocks;
}

-- the declaration has no identity constraints, and these properties
pub record HasKey (t : Tables) (element : ℕ) (key : Properties) : Type 0 where
  pub part : ElementDecl
  pub value : ValueKey
  pub is : slice_get t.elements.parts element ≡ Some part
  pub free : length part.constraints ≡ 0
  pub read : IsConstraintKey t element part.value (Some value)
  pub joins : key ≡ joined part (type_of t element) value

abbrev pub IsKeyOf : Tables → ℕ → Option Properties → Type 0
IsKeyOf t element None = (key : Properties) → HasKey t element key → ⊥
IsKeyOf t element (Some key) = HasKey t element key
