-- What a change by numbers means is one change, as tables grow too.
use Rattle.std.proofs.Common.{◌≡◌, ℕ, ◌+◌, List, [], ◌∷◌, ◌++◌, map, sym, ap, ◌∙◌, append_assoc, append-nil}
use Rattle.xs_names.specs.Names.{NameTable, IsSound, Grown}
use Rattle.tree_rows.specs.Forest.{Forest, none, text, element}
use Rattle.tree_rows.specs.Rows.{rows_of, siblings}
use Rattle.tree_rows.specs.RowLaws.{siblings-all}
use Rattle.tree_rows.specs.declared.row.Row.{Row}
use Rattle.tree_rows.specs.declared.row.Content.TheVariants as rows
use Rattle.tree_edits.specs.Inverses.{put_back, take_out, rename, write, reword}
use Rattle.tree_edits.specs.Inverses as law
use Rattle.doc_tree.specs.Changes.{Means}
use Rattle.doc_tree.specs.Parts.{IsPart, AreRows}
use Rattle.doc_tree.specs.declared.change.Change.{Change}
use Rattle.doc_tree.specs.declared.change.Change.TheVariants as changes
use Rattle.doc_tree.specs.declared.part.PartRow.{PartRow}
use Rattle.doc_tree.proofs.Leading.{means_grown}
use Rattle.edit_history.specs.Meant.{row_of, part_of, meant}

module _ (t : NameTable) where
  -- the rows of siblings, and of what is left
  rows_are : (depth : ℕ) (part : List PartRow) (f : Forest) (left : List PartRow) → AreRows t depth part f left
      → map (row_of t) part ≡ rows_of depth f ++ map (row_of t) left
  rows_are depth part none left a = ap (map (row_of t)) a
  rows_are depth part (text number chars next) left a =
      let row : Row = record { number = number; depth = depth; content = rows.Chars chars; bindings = []; attributes = [] } in
      ap (map (row_of t)) a.1 ∙ ap (λ l. row ∷ l) (rows_are depth a.0 next left a.2)
  rows_are depth part (element number name bindings attributes children next) left a =
      let row : Row = record { number = number; depth = depth; content = rows.Element name; bindings = bindings; attributes = attributes } in
      let below = rows_are (depth + 1) a.2 children a.4 a.5 in
      let beside = rows_are depth a.4 next left a.6 in
      ap (map (row_of t)) a.3
      ∙ (λ i. record { number = number; depth = depth; content = rows.Element (a.1.name_is i); bindings = a.1.bindings_are i; attributes = a.1.attributes_are i } ∷ map (row_of t) a.2)
      ∙ ap (λ l. row ∷ l)
      (below ∙ ap (λ l. rows_of (depth + 1) children ++ l) beside ∙ sym (append_assoc (rows_of (depth + 1) children) (rows_of depth next) (map (row_of t) left)))

  part_is : (part : List PartRow) (f : Forest) → IsPart t part f → part_of t part ≡ f
  part_is part f a = ap (λ l. siblings l 1) (rows_are 1 part f [] a ∙ append-nil (rows_of 1 f)) ∙ siblings-all f

  pub meant_is : (change : Change) (c : law.Change) → Means t change c → meant t change ≡ c
  meant_is (changes.PutBack p k part) (put_back parent place f) m = λ i. put_back (m.0 i) (m.1 i) (part_is part f m.2 i)
  meant_is (changes.Take node) (take_out key) m = ap take_out m
  meant_is (changes.Name node n) (rename key name) m = λ i. rename (m.0 i) (m.2 i)
  meant_is (changes.Attr node n k v) (write key name place value) m = λ i. write (m.0 i) (m.2 i) (m.3 i) (m.4 i)
  meant_is (changes.Chars node chars) (reword key other) m = λ i. reword (m.0 i) (m.1 i)
  meant_is change c m = absurd m

-- it means the same where the table has more names
pub meant_stays : (t u : NameTable) → IsSound t → Grown t u → (change : Change) (c : law.Change) → Means t change c → meant u change ≡ meant t change
meant_stays t u sound g change c m = meant_is u change c (means_grown t u g sound change c m) ∙ sym (meant_is t change c m)
