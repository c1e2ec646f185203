-- The positions of an expression: what `find_positions` answers.
use Rattle.std.specs.Prelude.{◌≡◌, ℕ, ◌<◌, ◌↔◌, Bool, false, IsTrue, List, [], map, length, slice_index, slice_index_or, Contains}
use Rattle.std.specs.List.Sorted.{IsStrictlyIncreasing}
use Rattle.xs_positions.specs.Tree.{Tree, size, symbols}
use Rattle.xs_positions.specs.PositionWords.{IsWord, Begins, Ends, Follows, Passes, Exchanges, Spells}
use Rattle.xs_positions.specs.Sets.{row}

-- The symbol of each position, the positions that begin a word and those that end one, for each position those that
-- come right after it, and whether a word goes through it; and whether the empty word is one.
pub record Table : Type 0 where
  pub symbols : List ℕ
  pub first : List ℕ
  pub last : List ℕ
  pub follow : List (List ℕ)
  pub useful : List Bool
  pub nullable : Bool

-- The table of an expression's words, whose positions are numbered from 0. Each set is a rising list.
-- What may come after a position does not hang on how a word came to it, and the words, read as the symbols of their
-- positions, are the expression's words over symbols.
pub record ArePositionsOf (tree : Tree) (table : Table) : Type 0 where
  pub symbols : table.symbols ≡ symbols tree
  pub nullable : IsTrue table.nullable ↔ IsWord tree 0 []
  pub first : (p : ℕ) → Contains table.first p ↔ Begins (IsWord tree 0) p
  pub last : (p : ℕ) → Contains table.last p ↔ Ends (IsWord tree 0) p
  pub follow : (p q : ℕ) → p < size tree → Contains (row table.follow p) q ↔ Follows (IsWord tree 0) p q
  pub useful : (p : ℕ) → p < size tree → IsTrue (slice_index_or table.useful p false) ↔ Passes (IsWord tree 0) p
  pub exchange : Exchanges (IsWord tree 0)
  pub spelling : (text : List ℕ) → Spells tree text ↔ ((word : List ℕ) × IsWord tree 0 word × (map (λ p. slice_index table.symbols p) word ≡ text))
  pub count : length table.symbols ≡ size tree
  pub within : (p : ℕ) → Passes (IsWord tree 0) p → p < size tree
  pub first_rises : IsStrictlyIncreasing table.first
  pub last_rises : IsStrictlyIncreasing table.last
  pub follow_rises : (p : ℕ) → IsStrictlyIncreasing (row table.follow p)
