-- Derivation along bases alone, which is how a type is derived from one that has no members.
use Rattle.std.specs.Prelude.{◌≡◌, Some}
use Rattle.xs_components.specs.Tables.{Tables}
use Rattle.xs_components.specs.declared.common.Methods.{Methods}
use Rattle.xs_components.specs.declared.common.TypeId.{TypeId}
use Rattle.component_references.specs.Heights.{type_height, IsLower}
use Rattle.type_derivation.specs.Derives.{above}

-- a type is another, or its base, by none of some methods, derives so from the other
pub data DerivesAlong (t : Tables) (excluded : Methods) : TypeId → TypeId → Type 0 where
  itself : (one : TypeId) → DerivesAlong t excluded one one
  from_base : (sub next base : TypeId) → above t excluded sub ≡ Some next → DerivesAlong t excluded next base → DerivesAlong t excluded sub base

-- a type that is lower derives in its place
pub record GoesUp (t : Tables) (excluded : Methods) (at next : TypeId) (base : TypeId) : Type 0 where
  pub lower : IsLower t (type_height t at) next
  pub on : DerivesAlong t excluded at base → DerivesAlong t excluded next base
  pub back : DerivesAlong t excluded next base → DerivesAlong t excluded at base
