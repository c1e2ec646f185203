-- What is below a node.
use Rattle.std.specs.Prelude.{◌≡◌, ◌⊎◌, ℕ, ◌+◌, ◌≤◌}
use Rattle.xs_names.specs.Names.{NameTable}
use Rattle.tree_rows.specs.Forest.{Forest, none, count, deepest_of}
use Rattle.tree_rows.specs.declared.limits.TheConstants.{MAX_DEPTH, MAX_NODES}
use Rattle.doc_nodes.specs.Nodes.{Node, Nodes, IsNode, IsSound}
use Rattle.doc_changes.specs.Stands.{firsts, StandFor}

-- these siblings are the children of n, with all that is below them
pub record IsUnder (t : NameTable) (ns : Nodes) (n : ℕ) (below : Forest) : Type 0 where
  pub it : Node
  pub is : IsNode ns n it
  pub children : it.children ≡ firsts below
  pub stand : StandFor t ns below
  pub high : (below ≡ none) ⊎ (it.depth ≤ MAX_DEPTH)
  pub shallow : deepest_of (it.depth + 1) below ≤ MAX_DEPTH
  pub few : count below ≤ MAX_NODES
  pub sound : IsSound ns
