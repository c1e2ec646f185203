-- A table of the content types of all complex types.
use Rattle.std.specs.Prelude.{◌≡◌, ℕ, ◌<◌, List, Some, length, slice_get}
use Rattle.xs_components.specs.Tables.{Tables}
use Rattle.component_tables.specs.declared.content_types.ContentType.{ContentType}
use Rattle.component_tables.specs.ContentTypes.{complex_content}

pub record AreFilled (t : Tables) (table : List ContentType) : Type 0 where
  pub each : length table ≡ length t.complexes.parts
  pub are : (n : ℕ) → n < length t.complexes.parts → slice_get table n ≡ Some (complex_content t n)
