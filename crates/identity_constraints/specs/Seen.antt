-- What identity constraints see of an assessed document: Structures 3.11.4.
use Rattle.std.specs.Prelude.{ℕ, List, [], ◌∷◌, ◌++◌, Option, map}
use Rattle.simple_values.specs.declared.value.Value.{Value}
use Rattle.xs_components.specs.declared.common.TypeId.{TypeId}

-- an attribute, given or added: its name, and its value, where its text is valid by a simple type
pub record KeyAttribute : Type 0 where
  pub name : ℕ
  pub value : Option Value

-- an element: its number, its name, the declaration and the type that govern it, and the value of its text, where that is valid by a
-- simple type and the element is neither nil nor skipped
pub record KeyElement : Type 0 where
  pub number : ℕ
  pub name : ℕ
  pub declaration : Option ℕ
  pub of : Option TypeId
  pub value : Option Value
  pub attributes : List KeyAttribute

-- elements that are siblings, each with those below it
pub data KeyForest : Type 0 where
  none : KeyForest
  element : (own : KeyElement) (below next : KeyForest) → KeyForest

-- an element with those below it, at the end of a way down: the names of the elements below the one where it begins, the last its own
pub record Reached : Type 0 where
  pub way : List ℕ
  pub own : KeyElement
  pub below : KeyForest

-- the same element by the way from the parent of the one where its way begins, which has this name
abbrev pub from_above : ℕ → Reached → Reached
from_above name r = record { way = name ∷ r.way; own = r.own; below = r.below }

-- all elements of a forest, in document order, with the ways from the parent of its siblings
abbrev pub reached_below : KeyForest → List Reached
reached_below none = []
reached_below (element own below next) =
    record { way = own.name ∷ []; own = own; below = below } ∷ (map (from_above own.name) (reached_below below) ++ reached_below next)

-- an element itself, and all below it
abbrev pub reached_from : KeyElement → KeyForest → List Reached
reached_from own below = record { way = []; own = own; below = below } ∷ reached_below below
