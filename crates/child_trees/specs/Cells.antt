-- The maps that cells hold, one for each slot.
use Rattle.std.specs.Prelude.{◌≡◌, ◌≢◌, ℕ, ◌+◌, ◌<◌, ◌≤◌, List, length, slice_index_or}

-- the summary's shape, and the map of each slot's cell
pub record CellMaps (Shape Map : Type 0) : Type 0 where
  pub shape : Shape
  pub maps : List Map

-- the map of a slot; this one past the end
abbrev pub map_at : {Shape Map : Type 0} → (Shape → Map) → CellMaps Shape Map → ℕ → Map
map_at unit v j = slice_index_or v.maps j (unit v.shape)

-- each map is the summary's
abbrev pub AreMaps : {Shape Map : Type 0} → (Shape → Map → Type 0) → CellMaps Shape Map → Type 0
AreMaps {Map = Map} is_map v = (j : ℕ) (d : Map) → j < length v.maps → is_map v.shape (slice_index_or v.maps j d)

-- the slot now has this map, and each other slot has what it had
pub record SetsMap {Shape Map : Type 0} (unit : Shape → Map) (old new : CellMaps Shape Map) (slot : ℕ) (m : Map) : Type 0 where
  pub changed : map_at unit new slot ≡ m
  pub others : (j : ℕ) → j ≢ slot → map_at unit new j ≡ map_at unit old j
  pub size : length new.maps ≡ length old.maps
  pub shape : new.shape ≡ old.shape

-- there is one more slot
pub record AddsSlot {Shape Map : Type 0} (unit : Shape → Map) (old new : CellMaps Shape Map) : Type 0 where
  pub size : length new.maps ≡ length old.maps + 1
  pub others : (j : ℕ) → j < length old.maps → map_at unit new j ≡ map_at unit old j
  pub shape : new.shape ≡ old.shape

-- there may be more slots
pub record AddsSlots {Shape Map : Type 0} (unit : Shape → Map) (old new : CellMaps Shape Map) : Type 0 where
  pub size : length old.maps ≤ length new.maps
  pub others : (j : ℕ) → j < length old.maps → map_at unit new j ≡ map_at unit old j
  pub shape : new.shape ≡ old.shape

-- each cell is live, and no two slots have one
pub record AreCells {Sum Cell : Type 0} (live : Sum → Cell → Type 0) (s : Sum) (cells : List Cell) : Type 0 where
  pub live_at : (j : ℕ) (d : Cell) → j < length cells → live s (slice_index_or cells j d)
  pub apart : (j k : ℕ) (d : Cell) → j < length cells → k < length cells → slice_index_or cells j d ≡ slice_index_or cells k d → j ≡ k
