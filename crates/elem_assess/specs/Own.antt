-- The simple types that stand in the restrictions of simple contents (Structures 3.4.2).
use Rattle.std.specs.Prelude.{◌≡◌, ℕ, true, List, Some, slice_get}
use Rattle.xs_components.specs.Tables.{Tables}
use Rattle.xs_components.specs.declared.common.TypeId.{TypeId}
use Rattle.xs_components.specs.declared.complex.ComplexType.{ComplexType}
use Rattle.xs_components.specs.declared.complex.ContentForm.TheVariants as forms
use Rattle.xs_components.specs.declared.simple.FacetItem.{FacetItem}
use Rattle.component_references.specs.Heights.{IsType}
use Rattle.type_derivation.specs.Derives.{is_simple}

-- the type is there, and is simple
pub record IsSimpleType (t : Tables) (of : TypeId) : Type 0 where
  pub there : IsType t of
  pub simple : is_simple of ≡ true

-- they are all
abbrev pub AreOwnSimple : Tables → Type 0
AreOwnSimple t =
    (n : ℕ) (part : ComplexType) (own : TypeId) (step : List FacetItem) → slice_get t.complexes.parts n ≡ Some part → part.content ≡ forms.Simple (Some own) step → IsSimpleType t own
