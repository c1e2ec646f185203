-- A part that was put among the children of a node.
use Rattle.std.specs.Prelude.{◌≡◌, ◌≢◌, ℕ, ◌+◌, ◌<◌, insert, length}
use Rattle.xs_names.specs.Names.{NameTable}
use Rattle.tree_rows.specs.Forest.{Forest, count}
use Rattle.tree_edits.specs.Edits.{renumbered}
use Rattle.doc_nodes.specs.Nodes.{Node, Nodes, node, IsNode}
use Rattle.doc_changes.specs.Stands.{StandFor}

-- a part of one root has become the child of p at this place, under the numbers that are given out next; each node but p is as it was
pub record Plants (t : NameTable) (old new : Nodes) (p place : ℕ) (f : Forest) : Type 0 where
  pub size : length new ≡ length old + count f
  pub parent : (it : Node) → IsNode old p it → IsNode new p (record it { children = insert it.children place (length old) })
  pub stand : StandFor t new (renumbered (length old) f)
  pub others : (m : ℕ) → m < length old → m ≢ p → node new m ≡ node old m
