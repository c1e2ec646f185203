-- The types of declarations, and those at the top, one after another.
use Rattle.std.specs.Prelude.{◌≡◌, ℕ, ◌<◌, List, Option, None, length, slice_index_or}
use Rattle.std.specs.Option.{option_or}
use Rattle.xs_components.specs.declared.element.ElementDecl.{ElementDecl}
use Rattle.xs_components.specs.Tables.{Tables}
use Rattle.xs_components.specs.declared.common.TypeId.{TypeId}
use Rattle.xs_components.specs.declared.common.TypeId.TheVariants.{AnyType}
use Rattle.component_tables.specs.Types.{if_named, type_of}

-- a declaration of this number was added
abbrev pub IsAdded : List (Option ℕ) → ℕ → ElementDecl → List (Option ℕ) → Type 0
IsAdded old number part new = (name : ℕ) → slice_index_or new name None ≡ option_or (slice_index_or old name None) (if_named part number name)

-- these are the types of all element declarations
pub record AreTypesOf (t : Tables) (types : List TypeId) : Type 0 where
  pub each : length types ≡ length t.elements.parts
  pub are : (element : ℕ) → element < length types → slice_index_or types element AnyType ≡ type_of t element
