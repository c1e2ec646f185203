-- Rows that stand once where they are alike.
use Rattle.std.specs.Prelude.{◌≡◌, ℕ, ◌+◌, ◌<◌, ◌≤◌, List, map, length, All}
use Rattle.xs_positions.specs.Sets.{row}
use Rattle.xs_positions.specs.declared.shared.SharedRows.TheInside.{Inside}

-- each row is the one of its number
abbrev pub shared_rows : Inside → List (List ℕ)
shared_rows shared = map (λ number. row (map (λ row. row.items) shared.rows.items) number) shared.numbers.items

-- the rows of all numbers are there
abbrev pub AreThere : Inside → Type 0
AreThere shared = All (λ number. number < length shared.rows.items) shared.numbers.items

-- the row has this number, and those before have theirs still
pub record IsAmong (one : List ℕ) (number : ℕ) (old new : List (List ℕ)) : Type 0 where
  pub there : number < length new
  pub is : row new number ≡ one
  pub kept : (n : ℕ) → n < length old → row new n ≡ row old n
  pub more : length old ≤ length new
  pub few : length new ≤ length old + 1
