-- A node with all that is below it, cut from the nodes.
use Rattle.std.specs.Prelude.{◌≡◌, ◌≢◌, ◌⊎◌, ℕ, ◌+◌, ◌≤◌, [], length, remove, true, false, None}
use Rattle.xs_names.specs.Names.{NameTable}
use Rattle.tree_rows.specs.Forest.{Forest, none, count, deepest_of}
use Rattle.tree_rows.specs.Whole.{times}
use Rattle.tree_rows.specs.declared.limits.TheConstants.{MAX_DEPTH, MAX_NODES}
use Rattle.tree_edits.specs.Edits.{has}
use Rattle.doc_nodes.specs.Nodes.{Node, Nodes, node, IsNode, IsSound}
use Rattle.doc_changes.specs.Stands.{firsts, StandFor}

-- these siblings are the children of n, with all that is below them
pub record IsOver (t : NameTable) (ns : Nodes) (n : ℕ) (below : Forest) : Type 0 where
  pub it : Node
  pub is : IsNode ns n it
  pub children : it.children ≡ firsts below
  pub stand : StandFor t ns below
  pub differ : (key : ℕ) → times key below ≤ 1
  pub outside : has n below ≡ false
  pub high : (below ≡ none) ⊎ (it.depth ≤ MAX_DEPTH)
  pub shallow : deepest_of (it.depth + 1) below ≤ MAX_DEPTH
  pub few : count below ≤ MAX_NODES
  pub sound : IsSound ns

-- what was below n is gone
pub record Clears (old new : Nodes) (n : ℕ) (below : Forest) : Type 0 where
  pub size : length new ≡ length old
  pub here : (it : Node) → IsNode old n it → IsNode new n (record it { children = [] })
  pub gone : (m : ℕ) → has m below ≡ true → node new m ≡ None
  pub others : (m : ℕ) → m ≢ n → has m below ≡ false → node new m ≡ node old m

-- c, which was the child of p at this place, is gone with what was below it
pub record Prunes (old new : Nodes) (p place c : ℕ) (below : Forest) : Type 0 where
  pub size : length new ≡ length old
  pub parent : (it : Node) → IsNode old p it → IsNode new p (record it { children = remove it.children place })
  pub here : node new c ≡ None
  pub gone : (m : ℕ) → has m below ≡ true → node new m ≡ None
  pub others : (m : ℕ) → m ≢ p → m ≢ c → has m below ≡ false → node new m ≡ node old m
