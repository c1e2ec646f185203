-- What the walk over an expression speaks of: the tree of a node, and copies of a part in a row.
use Rattle.std.specs.Prelude.{ℕ, ◌+◌, ◌*◌, ◌≤◌, List, map}
use Rattle.xs_positions.specs.Tree.{Tree, size}
use Rattle.xs_positions.specs.PositionWords.{IsWord, Rounds}
use Rattle.xs_positions.specs.Nodes.{tree_at, trees_of}
use Rattle.xs_positions.specs.declared.expr.Node.{Node}

abbrev pub tree_in : List Node → ℕ → Tree
tree_in nodes id = tree_at (trees_of nodes) id

abbrev pub trees_in : List Node → List ℕ → List Tree
trees_in nodes ids = map (tree_in nodes) ids

-- the words of copy j of a part
abbrev pub CopyOf : Tree → ℕ → ℕ → List ℕ → Type 0
CopyOf part base j word = IsWord part (base + j * size part) word

-- words of at least so many copies, one of each, and at most so many
abbrev pub WithinRounds : Tree → ℕ → ℕ → ℕ → List ℕ → Type 0
WithinRounds part base least most word =
    (rounds : ℕ) × ((least ≤ rounds) × (rounds ≤ most)) × Rounds (CopyOf part base) rounds 0 word
