-- Rows that are kept in slots, as the tests keep them.
use Rattle.std.specs.Prelude.{◌≡◌, ℕ, List, Option, Some, None, slice_index_or}
use Rattle.map_rows.specs.Rows.{RowMap, IsLive}

-- each row in a slot is live, and no row is in two slots
pub record AreHeld (v : RowMap) (width cap : ℕ) (slots : List (Option ℕ)) : Type 0 where
  pub width_is : v.width ≡ width
  pub cap_is : v.cap ≡ cap
  pub live : (i r : ℕ) → slice_index_or slots i None ≡ Some r → IsLive v r
  pub once : (i j r : ℕ) → slice_index_or slots i None ≡ Some r → slice_index_or slots j None ≡ Some r → i ≡ j
