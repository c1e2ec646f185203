-- The redefines of a document and what stands in them, as the code has them.
use Rattle.std.specs.Prelude.{ℕ, ◌+◌, ◌==◌, ◌++◌, Bool, List, [], ◌∷◌, Option, filter_map, map, if◌then◌else◌}
use Rattle.std.specs.List.{list_any, filter}
use Rattle.std.specs.Option.{option_map}
use Rattle.schema_shape.specs.declared.forms.Shape.{Shape}
use Rattle.redefine_originals.specs.declared.redefines.Redefine.{Redefine}
use Rattle.redefine_originals.specs.Versions.{Child, redefined}

-- a redefine: its location, and the numbers of the elements in it
abbrev pub redefine_entry : Redefine → List ℕ × List ℕ
redefine_entry r = (r.location.now, r.members.now)

abbrev pub redefine_at : Shape → Option (List ℕ × List ℕ)
redefine_at shape = option_map (λ location. (location, shape.members)) (redefined shape.form)

abbrev pub redefines : List Shape → List (List ℕ × List ℕ)
redefines shapes = filter_map redefine_at shapes

-- the element of this number stands in the redefine
abbrev pub is_in : ℕ → List ℕ × List ℕ → Bool
is_in item redefine = list_any (λ other. other == item) redefine.1

-- the numbers of the redefines in which the element of a number stands, the first of them with this number
abbrev pub owner_numbers : ℕ → ℕ → List (List ℕ × List ℕ) → List ℕ
owner_numbers item number [] = []
owner_numbers item number (r ∷ rs) = (if is_in item r then number ∷ [] else []) ++ owner_numbers item (number + 1) rs

-- the element, as often as this number is among others
abbrev pub repeated : ℕ → List ℕ → Shape → List Shape
repeated number owners shape = map (λ owner. shape) (filter (λ owner. owner == number) owners)

abbrev pub child_in : List ℕ → Shape → Child
child_in location shape = record { location = location; shape = shape }

-- what stands in redefines by their numbers, the first of them with this number
abbrev pub all_inside : (ℕ → List Shape) → ℕ → List (List ℕ × List ℕ) → List Child
all_inside inside number [] = []
all_inside inside number (r ∷ rs) = map (child_in r.0) (inside number) ++ all_inside inside (number + 1) rs
