-- Siblings, taken one by one.
use Rattle.std.specs.Prelude.{◌≡◌, Option, Some, None}
use Rattle.tree_rows.specs.Forest.{Forest, none}
use Rattle.tree_rows.specs.Rows.{node}
use Rattle.tree_rows.specs.declared.siblings.Sibling.{Sibling}

-- there are no siblings; or there is a first one, with its children and its next siblings
abbrev pub IsTaken : Forest → Option Sibling → Type 0
IsTaken f None = f ≡ none
IsTaken f (Some s) = f ≡ node s.row.now.number s.row.now.content s.row.now.bindings s.row.now.attributes s.children s.next
