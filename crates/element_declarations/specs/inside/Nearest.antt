-- The nearest head of an element that content models name, from those of the heads above.
use Rattle.std.specs.Prelude.{◌≡◌, ℕ, ◌<◌, List, Option, None, Some, length, slice_index, slice_index_or, if◌then◌else◌}
use Rattle.xs_components.specs.Tables.{Tables}
use Rattle.component_references.specs.Descent.{along}
use Rattle.element_declarations.specs.Groups.{head_of, is_named}

-- the head, where content models name it, else its own nearest one
abbrev pub nearest_by : Tables → (ℕ → Option ℕ) → Option ℕ → Option ℕ
nearest_by t nearest None = None
nearest_by t nearest (Some head) = if is_named t head then Some head else nearest head

abbrev pub nearest_step : (ℕ → Option ℕ) → Tables → ℕ → Option ℕ
nearest_step nearest t element = nearest_by t nearest (head_of t element)

-- the first of the heads of an element, the lowest one first, that content models name
unfoldable pub nearest_of : Tables → ℕ → Option ℕ
nearest_of t element = along (slice_index t.elements.ranks) None (λ nearest. nearest_step nearest t) element

-- the nearest head in the place of a number
abbrev pub known : List (Option ℕ) → ℕ → Option ℕ
known table element = slice_index_or table element None

-- these are the nearest heads of all elements
pub record AreNearest (t : Tables) (table : List (Option ℕ)) : Type 0 where
  pub each : length table ≡ length t.elements.parts
  pub are : (element : ℕ) → element < length table → known table element ≡ nearest_of t element
