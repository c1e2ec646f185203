-- The fixed values of element declarations by keys, one declaration after another.
use Rattle.std.specs.Prelude.{◌≡◌, ℕ, ◌<◌, ◌⊎◌, List, Option, None, Some, IfSome, length, slice_get}
use Rattle.xs_components.specs.Tables.{Tables}
use Rattle.xs_components.specs.declared.common.TypeId.{TypeId}
use Rattle.xs_components.specs.declared.element.ElementDecl.{ElementDecl}
use Rattle.xs_names.specs.Numbering.{Begins, HasNoRepeats}
use Rattle.component_references.specs.Heights.{IsType}
use Rattle.component_references.specs.Ranked.{IsRanked}
use Rattle.component_tables.specs.ContentTypes.{AreContentsOf, content_of}
use Rattle.component_tables.specs.declared.content_types.ContentType.TheVariants.{SimpleType, SimpleContent}
use Rattle.component_tables.specs.Types.{AreDeclarationsOf}
use Rattle.simple_values.specs.Same.{key_value}
use Rattle.simple_values.specs.declared.key.Key.{Key}
use Rattle.simple_values.specs.declared.value.Value.{Value}
use Rattle.simple_types.specs.SimpleTypes.{AreTypesOf, IsWhole}
use Rattle.simple_types.specs.declared.types.SimpleTypes.{SimpleTypes}
use Rattle.derive_models.specs.Fixed.{HasFixed, number_of}
use Rattle.derive_models.specs.declared.set.ElementSet.{ElementSet}

-- what is found of the components is so
pub record IsFound (set : ElementSet) : Type 0 where
  pub ranked : IsRanked set.parts.now
  pub elements : (n : ℕ) (part : ElementDecl) → slice_get set.parts.now.elements.parts n ≡ Some part → IfSome part.of (IsType set.parts.now)
  pub declarations : AreDeclarationsOf set.parts.now set.declarations.now
  pub contents : AreContentsOf set.parts.now set.contents.now

-- these are the simple types, and the literals of the simple types and of simple content are known
pub record AreRead (t : Tables) (types : SimpleTypes) : Type 0 where
  pub judged : AreTypesOf t types
  pub whole : (of : TypeId) → IsType t of → (content_of t of ≡ SimpleType) ⊎ (content_of t of ≡ SimpleContent) → IsWhole types of

-- the key of the fixed value of a declaration, if it has one
abbrev pub IsFixedKey : Tables → ℕ → Option Key → Type 0
IsFixedKey t element None = (value : Value) → HasFixed t element value → ⊥
IsFixedKey t element (Some key) = (value : Value) × HasFixed t element value × (key ≡ key_value value)

-- the number is that of the key of the fixed value
abbrev pub IsNumbered : Tables → List Key → ℕ → Option ℕ → Type 0
IsNumbered t keys element None = (value : Value) → HasFixed t element value → ⊥
IsNumbered t keys element (Some n) = (value : Value) × HasFixed t element value × (slice_get keys n ≡ Some (key_value value))

-- keys were put behind others, none of them twice
pub record Grows (old new : List Key) : Type 0 where
  pub begins : Begins old new
  pub once : HasNoRepeats old → HasNoRepeats new

-- the first declarations have the numbers of their keys
pub record AreNumbered (t : Tables) (keys : List Key) (count : ℕ) (numbers : List (Option ℕ)) : Type 0 where
  pub len : length numbers ≡ count
  pub once : HasNoRepeats keys
  pub each : (element : ℕ) → element < count → IsNumbered t keys element (number_of numbers element)
