-- What an edit keeps of a tree.
use Rattle.std.specs.Prelude.{ℕ, ◌≤◌, ◌<◌}
use Rattle.tree_rows.specs.Forest.{Document}
use Rattle.tree_rows.specs.Whole.{times, IsTree}

-- no number is given again: a new node has none below the next free number of before
pub record GivesNew (old new : Document) : Type 0 where
  pub free : old.next_free ≤ new.next_free
  pub numbers : (key : ℕ) → key < old.next_free → times key new.forest ≤ times key old.forest

-- it is a tree again, and no number is given again
pub record KeepsTree (old new : Document) : Type 0 where
  pub tree : IsTree new
  pub numbers : GivesNew old new
