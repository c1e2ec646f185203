-- Which tree a change by numbers makes of another. Names go by the numbers of a table, and numbers of nodes are below the next that is
-- given out; both grow while a document is edited.
use Rattle.std.specs.Prelude.{◌≡◌, ℕ}
use Rattle.xs_names.specs.Names.{NameTable}
use Rattle.tree_rows.specs.Forest.{Forest, Document}
use Rattle.tree_edits.specs.Inverses.{changed, Fits}
use Rattle.tree_edits.specs.Inverses as law
use Rattle.doc_tree.specs.Changes.{Means}
use Rattle.doc_tree.specs.declared.change.Change.{Change}

-- the document with this tree and this next free number
abbrev pub document : Forest → ℕ → Document
document f free = record { forest = f; next_free = free }

-- the change can be made of the first tree and makes the second of it, where this is the next free number
pub record Leads (t : NameTable) (free : ℕ) (change : Change) (old new : Forest) : Type 0 where
  pub own : law.Change
  pub means : Means t change own
  pub fits : Fits (document old free) own
  pub makes : changed (document old free) own ≡ document new free
