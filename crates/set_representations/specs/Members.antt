-- The places of what stands in an element. The elements of a document stand in its list in document order, so what stands in one is
-- behind it.
use Rattle.std.specs.Prelude.{ℕ, ◌+◌, ◌==◌, List, [], ◌∷◌, Option, filter_map}
use Rattle.std.specs.List.{position_from}
use Rattle.schema_shape.specs.declared.forms.Shape.{Shape}

-- the place of the first of these elements that has the number, where their places begin here
abbrev pub place_from : ℕ → List Shape → ℕ → Option ℕ
place_from place shapes item = position_from (λ s. s.item == item) place shapes

-- the places of the elements of these numbers among those that are behind
abbrev pub places_of : ℕ → List Shape → List ℕ → List ℕ
places_of place behind items = filter_map (place_from place behind) items

-- the places of the members of each of these elements
abbrev pub all_members : ℕ → List Shape → List (List ℕ)
all_members place [] = []
all_members place (shape ∷ behind) = places_of (place + 1) behind shape.members ∷ all_members (place + 1) behind
