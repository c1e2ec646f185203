-- Rows as maps of the states of an automaton.
use Rattle.std.specs.Prelude.{◌≡◌, ℕ, suc, ◌-◌, ◌<◌, List, [], length, Some, unwrap_or, slice_index}
use Rattle.map_rows.specs.Rows.{RowMap, get, values_from}
use Rattle.content_automaton.specs.Automaton.{step_of, dead_of}
use Rattle.content_automaton.specs.Modelled.{ModelAutomaton}

-- a map of so many states, of which the last one is dead: it stays the last
pub record IsMap (width : ℕ) (m : List ℕ) : Type 0 where
  pub each : length m ≡ width
  pub within : (s : ℕ) → s < width → slice_index m s < width
  pub dead : slice_index m (width - 1) ≡ width - 1

-- the row of this number is live, and is such a map
pub record IsMapRow (v : RowMap) (r : ℕ) : Type 0 where
  pub row : List ℕ
  pub is : get v r ≡ Some row
  pub lawful : IsMap v.width row

-- the map that a row is
abbrev pub map_at : RowMap → ℕ → List ℕ
map_at v r = unwrap_or (get v r) []

-- how many states an automaton has, the dead one included, whose number is the last
abbrev pub width_of : ModelAutomaton → ℕ
width_of a = suc (dead_of a.machine)

-- for each state the state after a child with this symbol
abbrev pub leaf_of : ModelAutomaton → ℕ → List ℕ
leaf_of a n = values_from (λ s. step_of a.machine s n) 0 (width_of a)
