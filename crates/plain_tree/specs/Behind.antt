-- The rows of a tree from a node on.
use Rattle.std.specs.Prelude.{◌≡◌, ℕ, ◌+◌, ◌-◌, List, [], ◌∷◌, ◌==◌, nat_lt, Option, Some, None, if◌then◌else◌}
use Rattle.std.specs.Borrow.{Bor}
use Rattle.tree_rows.specs.declared.row.Content.{Content}
use Rattle.tree_rows.specs.declared.row.Content.TheVariants as contents
use Rattle.tree_rows.specs.declared.row.NodeKind.{NodeKind}
use Rattle.tree_rows.specs.declared.row.NodeKind.TheVariants as kinds
use Rattle.tree_rows.specs.declared.row.Row.{Row}
use Rattle.plain_tree.specs.Nodes.{Node, number_at}

-- the row of this number, and the rows behind it
abbrev pub tail_at : ℕ → List Row → Option (Row × List Row)
tail_at key [] = None
tail_at key (row ∷ rows) = if row.number == key then Some (row, rows) else tail_at key rows

-- the number of the row that has this place among those of a depth, up to one that is less deep
abbrev pub number_in : ℕ → ℕ → List Row → Option ℕ
number_in place depth [] = None
number_in place depth (row ∷ rows) =
    if nat_lt row.depth depth then None
    else (if row.depth == depth then (if place == 0 then Some row.number else number_in (place - 1) depth rows) else number_in place depth rows)

-- an element or a text, by its row
abbrev pub kind_by : Content → NodeKind
kind_by (contents.Element name) = kinds.Element
kind_by (contents.Chars chars) = kinds.Chars

-- what a row and those behind it say of a node
pub record IsRow (row : Row) (behind : List Row) (node : Node) : Type 0 where
  pub content : row.content ≡ node.content
  pub bindings : row.bindings ≡ node.bindings
  pub attributes : row.attributes ≡ node.attributes
  pub children : (place : ℕ) → number_in place (row.depth + 1) behind ≡ number_at place node.children

-- the row that was found is that of the node; there is none where there is no node
abbrev pub IsNode : Option (Row × List Row) → Option Node → Type 0
IsNode None None = Unit {0}
IsNode None (Some node) = ⊥
IsNode (Some found) None = ⊥
IsNode (Some found) (Some node) = IsRow found.0 found.1 node

-- what is found by references
abbrev pub found_by : Option (Bor Row × Bor (List Row)) → Option (Row × List Row)
found_by None = None
found_by (Some found) = Some (found.0.now, found.1.now)
