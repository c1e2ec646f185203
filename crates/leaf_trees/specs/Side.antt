-- The two sides of a fork.
use Rattle.std.specs.Prelude.{ℕ, ◌+◌, ◌-◌, nat_lt, if◌then◌else◌}
use Rattle.leaf_trees.specs.declared.side.Side.{Side}
use Rattle.leaf_trees.specs.declared.side.Side.TheVariants.{Left, Right}
use Rattle.leaf_trees.specs.declared.side.Way.{Way}
use Rattle.leaf_trees.specs.declared.node.Node.{Node}
use Rattle.leaf_trees.specs.Tree.{Tree, fork}

abbrev pub other : Side → Side
other Left = Right
other Right = Left

-- the node on this side of a fork
abbrev pub below : Side → Node → ℕ
below Left n = n.left
below Right n = n.right

-- of a left tree and a right one, that on this side
abbrev pub on : Side → Tree → Tree → Tree
on Left l r = l
on Right l r = r

-- these two below i, the first of them on this side
abbrev pub fork_on : Side → ℕ → Tree → Tree → Tree
fork_on Left i t u = fork i t u
fork_on Right i t u = fork i u t

-- where a place of both lies, if n come before the right side
abbrev pub way_to : ℕ → ℕ → Way
way_to k n = if nat_lt k n then record { side = Left; place = k } else record { side = Right; place = k - n }

-- a place of this side as one of both, where the other side has n leaves
abbrev pub place_on : Side → ℕ → ℕ → ℕ
place_on Left n k = k
place_on Right n k = n + k

-- the place on the other side, of n leaves, of that next to this side
abbrev pub nearest : Side → ℕ → ℕ
nearest Left n = 0
nearest Right n = n - 1
