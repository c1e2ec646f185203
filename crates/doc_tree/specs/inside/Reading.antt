-- Rows that are read.
use Rattle.std.specs.Prelude.{◌≡◌, ℕ, List, [], ◌++◌, length}
use Rattle.xs_names.specs.Names.{NameTable}
use Rattle.tree_rows.specs.Forest.{Forest}
use Rattle.tree_edits.specs.Edits.{append}
use Rattle.doc_changes.specs.Stands.{firsts}
use Rattle.doc_tree.specs.Parts.{AreRows}
use Rattle.doc_tree.specs.declared.part.PartRow.{PartRow}

-- the rows of siblings of this depth were put behind others
pub record ReadsOn (t : NameTable) (depth : ℕ) (old new : List PartRow) (f : Forest) : Type 0 where
  pub more : List PartRow
  pub are : new ≡ old ++ more
  pub rows : AreRows t depth more f []

-- the first of the siblings were read
pub record ReadSoFar (t : NameTable) (depth : ℕ) (old now : List PartRow) (whole : Forest) (place : ℕ) : Type 0 where
  pub gone : Forest
  pub next : Forest
  pub split : whole ≡ append gone next
  pub counted : place ≡ length (firsts gone)
  pub reads : ReadsOn t depth old now gone
