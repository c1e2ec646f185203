-- Copies of a part, one after the other.
use Rattle.std.specs.Prelude.{◌≡◌, ℕ, ◌+◌, ◌*◌, ◌<◌, ◌^◌, ◌↔◌, ◌||◌, ◌==◌, IsTrue, List, Option, replicate, Contains}
use Rattle.std.specs.List.Sorted.{IsStrictlyIncreasing}
use Rattle.xs_positions.specs.Tree.{Tree, size, copies}
use Rattle.xs_positions.specs.PositionWords.{Rounds, Ends}
use Rattle.xs_positions.specs.Measures.{has_empty, has_word, has_rounds}
use Rattle.xs_positions.specs.Sets.{Describes}
use Rattle.xs_positions.specs.Parts.{sets_of, AreParts}
use Rattle.xs_positions.specs.Walk.{CopyOf, WithinRounds}
use Rattle.xs_positions.specs.declared.sets.Part.{Part}

-- the parts are the copies of an expression that has a word, under bounds that some number of rounds meets
pub record AreCopies (tree : Tree) (base least : ℕ) (most : Option ℕ) (found : List Part) : Type 0 where
  pub parts : AreParts base (replicate (copies least most) tree) found
  pub word : IsTrue (has_word tree)
  pub rounds : IsTrue (has_rounds least most)
  pub fits : base + copies least most * size tree < 2 ^ 32

-- the sets of one word of each copy, and where a word of at least so many copies, one word of each, may end
pub record AreJoined (tree : Tree) (base least count : ℕ) (whole : Part) (last : List ℕ) : Type 0 where
  pub sets : Describes (Rounds (CopyOf tree base) count 0) base (count * size tree) (sets_of whole)
  pub nullable : whole.nullable ≡ (count == 0 || has_empty tree)
  pub ends : (p : ℕ) → Contains last p ↔ Ends (WithinRounds tree base least count) p
  pub ends_rise : IsStrictlyIncreasing last
