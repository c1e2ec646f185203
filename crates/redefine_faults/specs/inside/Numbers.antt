-- The elements of a document by their numbers.
use Rattle.std.specs.Prelude.{ℕ, ◌==◌, List, Bool}
use Rattle.std.specs.List.{filter, list_any}
use Rattle.schema_shape.specs.declared.forms.Shape.{Shape}

abbrev pub of_number : List Shape → ℕ → List Shape
of_number shapes item = filter (λ s. s.item == item) shapes

-- whether an element in another passes a test
abbrev pub any_inside : List Shape → (Shape → Bool) → Shape → Bool
any_inside shapes test parent = list_any (λ item. list_any test (of_number shapes item)) parent.members
