-- How a set of numbers is kept.
use Rattle.std.specs.Prelude.{◌≡◌, ℕ, ◌+◌, ◌≤◌, ◌↔◌, Bool, true, false, List, [], ◌∷◌, length, Contains}
use Rattle.xs_regex.specs.Sets.{Has}

-- how many flags are set
abbrev pub flagged : List Bool → ℕ
flagged [] = 0
flagged (true ∷ flags) = flagged flags + 1
flagged (false ∷ flags) = flagged flags

-- The members are the numbers whose flag is set, and as many as flags are set. There is room for a member of each number.
pub record IsListed (flags : List Bool) (members : List ℕ) (capacity : ℕ) : Type 0 where
  pub listed : (p : ℕ) → Contains members p ↔ Has flags p
  pub count : length members ≡ flagged flags
  pub room : length flags ≤ capacity
