-- Rows that are put among the children of a node.
use Rattle.std.specs.Prelude.{◌≡◌, ℕ, ◌+◌, ◌<◌, ◌≤◌, List, [], ◌∷◌, Bool, false, ◌==◌}
use Rattle.xs_names.specs.Names.{NameTable}
use Rattle.tree_rows.specs.Forest.{Forest, count}
use Rattle.tree_edits.specs.Edits.{append}
use Rattle.doc_nodes.specs.Nodes.{Node, Nodes, IsNode}
use Rattle.doc_changes.specs.inside.Growing.{CanPlant, Planted, at_end}
use Rattle.tree_edits.specs.Inverses.{IsOne}
use Rattle.doc_tree.specs.Parts.{AreRows}
use Rattle.doc_tree.specs.declared.part.PartRow.{PartRow}

-- the first of what is left is less deep
abbrev pub Stops : ℕ → List PartRow → Type 0
Stops depth [] = Unit {0}
Stops depth (row ∷ more) = row.depth < depth

-- the first of the rows has this depth
abbrev pub begins : ℕ → List PartRow → Bool
begins depth [] = false
begins depth (row ∷ more) = row.depth == depth

-- the rows begin with those of siblings that can be put below p
pub record Holds (t : NameTable) (ns : Nodes) (p depth : ℕ) (rows : List PartRow) (f : Forest) (left : List PartRow) : Type 0 where
  pub are : AreRows t depth rows f left
  pub stops : Stops depth left
  pub can : CanPlant ns p f
  pub level : (it : Node) → IsNode ns p it → depth ≤ it.depth + 1

-- the rows begin with those of one node that can be put below p
pub record HoldsOne (t : NameTable) (ns : Nodes) (p depth : ℕ) (rows : List PartRow) (f : Forest) (left : List PartRow) : Type 0 where
  pub are : AreRows t depth rows f left
  pub stops : Stops (depth + 1) left
  pub can : CanPlant ns p f
  pub level : (it : Node) → IsNode ns p it → depth ≤ it.depth + 1
  pub one : IsOne f

-- the first of the siblings stand there, and these rows are left
pub record PutSoFar (t : NameTable) (old now : Nodes) (p depth : ℕ) (left : List PartRow) (whole : Forest) (end : List PartRow) (done : ℕ) : Type 0 where
  pub gone : Forest
  pub next : Forest
  pub split : whole ≡ append gone next
  pub counted : done ≡ count gone
  pub are : AreRows t depth left next end
  pub planted : Planted t old now p at_end gone
