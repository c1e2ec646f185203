-- Parts of a document, taken out and put back with their numbers.
use Rattle.std.specs.Prelude.{◌≡◌, ◌≢◌, ℕ, ◌+◌, List, [], ◌∷◌, insert, false, length}
use Rattle.xs_names.specs.Names.{NameTable}
use Rattle.tree_rows.specs.Forest.{Forest, none, text, element}
use Rattle.tree_edits.specs.Edits.{has}
use Rattle.doc_nodes.specs.Nodes.{Node, Nodes, node, IsNode}
use Rattle.doc_nodes.specs.declared.content.Content.TheVariants as contents
use Rattle.doc_nodes.specs.declared.content.Element.{Element}
use Rattle.doc_changes.specs.Stands.{StandFor}
use Rattle.doc_changes.specs.Named.{IsCalled}
use Rattle.tree_edits.specs.Sites.{first_number}
use Rattle.doc_tree.specs.declared.part.PartRow.{PartRow}

-- the rows begin with those of siblings of this depth, in document order, names by the numbers of a table; these are left
abbrev pub AreRows : NameTable → ℕ → List PartRow → Forest → List PartRow → Type 0
AreRows t depth rows none left = rows ≡ left
AreRows t depth rows (text number chars next) left =
    (more : List PartRow) × (rows ≡ record { number = number; depth = depth; content = contents.Chars chars } ∷ more) × AreRows t depth more next left
AreRows t depth rows (element number name bindings attributes children next) left =
    (e : Element) × IsCalled t e name bindings attributes
    × (more : List PartRow) × (rows ≡ record { number = number; depth = depth; content = contents.Element e } ∷ more)
    × (rest : List PartRow) × AreRows t (depth + 1) more children rest × AreRows t depth rest next left

-- the part is this node, with all that is below it
abbrev pub IsPart : NameTable → List PartRow → Forest → Type 0
IsPart t rows f = AreRows t 1 rows f []

-- a part has become the child of p at this place, each of its nodes under its own number; each other node but p is as it was
pub record Grafts (t : NameTable) (old new : Nodes) (p place : ℕ) (f : Forest) : Type 0 where
  pub size : length new ≡ length old
  pub parent : (it : Node) → IsNode old p it → IsNode new p (record it { children = insert it.children place (first_number f) })
  pub stand : StandFor t new f
  pub others : (m : ℕ) → has m f ≡ false → m ≢ p → node new m ≡ node old m
