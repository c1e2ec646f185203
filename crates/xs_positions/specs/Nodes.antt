-- The nodes of an expression as trees, each over the trees of the nodes before it.
use Rattle.std.specs.Prelude.{ℕ, ◌<◌, ⊤, List, [], ◌∷◌, ◌++◌, map, length, replicate, slice_index_or, All}
use Rattle.xs_positions.specs.Tree.{Tree, one, nothing, repeat, sequence_of, choice_of, copies}
use Rattle.xs_positions.specs.declared.expr.Node.{Node}
use Rattle.xs_positions.specs.declared.expr.Node.TheVariants.{Symbol, Sequence, Choice, Repeat}

-- the tree of a number
abbrev pub tree_at : List Tree → ℕ → Tree
tree_at trees id = slice_index_or trees id nothing

-- the tree of a node, whose parts are among these trees
abbrev pub tree_of : List Tree → Node → Tree
tree_of trees (Symbol symbol) = one symbol
tree_of trees (Sequence parts) = sequence_of (map (tree_at trees) parts.items)
tree_of trees (Choice parts) = choice_of (map (tree_at trees) parts.items)
tree_of trees (Repeat part least most) = repeat (tree_at trees part) least most

-- the trees of the nodes that come after these trees
abbrev pub trees_from : List Tree → List Node → List Tree
trees_from trees [] = trees
trees_from trees (node ∷ nodes) = trees_from (trees ++ tree_of trees node ∷ []) nodes

abbrev pub trees_of : List Node → List Tree
trees_of nodes = trees_from [] nodes

-- the parts of the node have numbers below
abbrev pub PartsBelow : ℕ → Node → Type 0
PartsBelow bound (Symbol symbol) = ⊤
PartsBelow bound (Sequence parts) = All (λ part. part < bound) parts.items
PartsBelow bound (Choice parts) = All (λ part. part < bound) parts.items
PartsBelow bound (Repeat part least most) = part < bound

-- the parts of each node come before it
abbrev pub IsOrdered : List Node → Type 0
IsOrdered nodes = (i : ℕ) (node : Node) → i < length nodes → PartsBelow i (slice_index_or nodes i node)

-- the parts of a node, each copy of a repeat's part, by their numbers
abbrev pub ids_of : Node → List ℕ
ids_of (Symbol symbol) = []
ids_of (Sequence parts) = parts.items
ids_of (Choice parts) = parts.items
ids_of (Repeat part least most) = replicate (copies least most) part

abbrev pub ids_at : List Node → ℕ → List ℕ
ids_at nodes id = slice_index_or (map ids_of nodes) id []
