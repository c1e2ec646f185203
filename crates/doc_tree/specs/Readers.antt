-- The nodes of a tree by their numbers: parents, children, and what elements and texts hold.
use Rattle.std.specs.Prelude.{ℕ, List, [], ◌==◌, Option, Some, None, if◌then◌else◌}
use Rattle.tree_rows.specs.Forest.{Forest, none, text, element}
use Rattle.tree_edits.specs.Edits.{has}
use Rattle.plain_tree.specs.Nodes as plain
use Rattle.plain_tree.specs.Nodes.{node_at}
use Rattle.doc_changes.specs.Stands.{firsts}

-- the parent of the node of this number, where the siblings stand under this one
abbrev pub parent_in : Option ℕ → ℕ → Forest → Option ℕ
parent_in above key none = None
parent_in above key (text number chars next) = if number == key then above else parent_in above key next
parent_in above key (element number name bindings attributes children next) =
    if number == key then above else (if has key children then parent_in (Some number) key children else parent_in above key next)

-- the parent of the node of this number, none for the root
abbrev pub parent_of : ℕ → Forest → Option ℕ
parent_of key f = parent_in None key f

abbrev pub children_by : Option plain.Node → List ℕ
children_by None = []
children_by (Some node) = firsts node.children

-- the numbers of the children of the node of this number, elements and texts, in order
abbrev pub children_of : ℕ → Forest → List ℕ
children_of key f = children_by (node_at key f)
