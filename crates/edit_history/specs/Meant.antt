-- What changes by numbers mean, as functions: names go by a table, and the nodes of a part by their rows.
use Rattle.std.specs.Prelude.{List, map}
use Rattle.xs_names.specs.Names.{NameTable}
use Rattle.tree_rows.specs.Forest.{Forest}
use Rattle.tree_rows.specs.Rows.{siblings}
use Rattle.tree_rows.specs.declared.row.Row.{Row}
use Rattle.doc_changes.specs.Stands.{expanded_of}
use Rattle.doc_tree.specs.NodeRows.{row_in}
use Rattle.tree_edits.specs.Inverses.{put_back, take_out, rename, write, reword}
use Rattle.tree_edits.specs.Inverses as law
use Rattle.doc_tree.specs.declared.change.Change.{Change}
use Rattle.doc_tree.specs.declared.change.Change.TheVariants as changes
use Rattle.doc_tree.specs.declared.part.PartRow.{PartRow}
use Rattle.edit_history.specs.Log.{Log, log_of}

module _ (t : NameTable) where
  -- the row of a node of a part
  abbrev pub row_of : PartRow → Row
  row_of row = row_in t row.number row.depth row.content

  -- a part of a document, as a tree
  abbrev pub part_of : List PartRow → Forest
  part_of part = siblings (map row_of part) 1

  -- a change by numbers, as a change of a document
  abbrev pub meant : Change → law.Change
  meant (changes.PutBack parent index part) = put_back parent index (part_of part)
  meant (changes.Take node) = take_out node
  meant (changes.Name node name) = rename node (expanded_of t name)
  meant (changes.Attr node name place value) = write node (expanded_of t name) place value
  meant (changes.Chars node chars) = reword node chars

  abbrev pub meant_log : Log Change → Log law.Change
  meant_log log = log_of log.depth (map meant log.past) (map meant log.future) log.taken
