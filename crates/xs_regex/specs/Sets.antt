-- Sets of numbers, by a flag for each.
use Rattle.std.specs.Prelude.{ℕ, Bool, false, IsTrue, List, slice_index_or}

-- the set has the number
abbrev pub Has : List Bool → ℕ → Type 0
Has set p = IsTrue (slice_index_or set p false)
