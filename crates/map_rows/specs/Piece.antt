-- What a contract sees of a block.
use Rattle.std.specs.Prelude.{ℕ, List, map, Option, unwrap_or}
use denote.RawPtr.{Ptr}

-- where its cells begin, and their numbers
pub record Piece : Type 0 where
  pub at : Ptr
  pub numbers : List ℕ

-- the numbers of cells that all hold one
abbrev pub numbers_of : List (Option ℕ) → List ℕ
numbers_of = map (λ c. unwrap_or c 0)
