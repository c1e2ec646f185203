-- What a change by numbers means of a document.
use Rattle.std.proofs.Common.{◌≡◌, ℕ, ◌<◌, List, length, sym, subst, Option, Result, Ok, Err, OnOk, OnErr}
use Rattle.xs_names.specs.Names.{NameTable}
use Rattle.tree_rows.specs.Forest.{Forest, Document}
use Rattle.doc_nodes.specs.Nodes.{Nodes, IsSound}
use Rattle.doc_changes.specs.Stands.{expanded_of}
use Rattle.tree_edits.specs.Inverses.{Fits, CanPutBack, put_back, take_out, rename, write, reword}
use Rattle.tree_edits.specs.Inverses as law
use Rattle.doc_tree.specs.Changes.{Means}
use Rattle.doc_tree.specs.Parts.{IsPart}
use Rattle.doc_tree.specs.declared.change.Change.TheVariants as changes
use Rattle.doc_tree.specs.declared.part.PartRow.{PartRow}

pub record PutsBack (t : NameTable) (d : Document) (c : law.Change) (p k : ℕ) (part : List PartRow) : Type 0 where
  pub f : Forest
  pub is : c ≡ put_back p k f
  pub part_is : IsPart t part f
  pub can : CanPutBack d p k f

pub puts_back : (t : NameTable) (d : Document) (c : law.Change) (p k : ℕ) (part : List PartRow) → Means t (changes.PutBack p k part) c → Fits d c → PutsBack t d c p k part
puts_back t d (put_back parent place f) p k part m fits = record {
  f = f;
  is = λ i. put_back (sym m.0 i) (sym m.1 i) f;
  part_is = m.2;
  can = subst (λ x. CanPutBack d x k f) (sym m.0) (subst (λ y. CanPutBack d parent y f) (sym m.1) fits);
}
puts_back t d (take_out key) p k part m fits = absurd m
puts_back t d (rename key name) p k part m fits = absurd m
puts_back t d (write key name place value) p k part m fits = absurd m
puts_back t d (reword key chars) p k part m fits = absurd m

pub takes : (t : NameTable) (c : law.Change) (node : ℕ) → Means t (changes.Take node) c → c ≡ take_out node
takes t (put_back parent place f) node m = absurd m
takes t (take_out key) node m = λ i. take_out (sym m i)
takes t (rename key name) node m = absurd m
takes t (write key name place value) node m = absurd m
takes t (reword key chars) node m = absurd m

pub names : (t : NameTable) (c : law.Change) (node n : ℕ) → Means t (changes.Name node n) c → (n < length t.names) × (c ≡ rename node (expanded_of t n))
names t (put_back parent place f) node n m = absurd m
names t (take_out key) node n m = absurd m
names t (rename key name) node n m = (m.1, λ i. rename (sym m.0 i) (sym m.2 i))
names t (write key name place value) node n m = absurd m
names t (reword key chars) node n m = absurd m

pub writes : (t : NameTable) (c : law.Change) (node n k : ℕ) (v : Option (List ℕ)) → Means t (changes.Attr node n k v) c → (n < length t.names) × (c ≡ write node (expanded_of t n) k v)
writes t (put_back parent place f) node n k v m = absurd m
writes t (take_out key) node n k v m = absurd m
writes t (rename key name) node n k v m = absurd m
writes t (write key name place value) node n k v m = (m.1, λ i. write (sym m.0 i) (sym m.2 i) (sym m.3 i) (sym m.4 i))
writes t (reword key chars) node n k v m = absurd m

pub rewords : (t : NameTable) (c : law.Change) (node : ℕ) (chars : List ℕ) → Means t (changes.Chars node chars) c → c ≡ reword node chars
rewords t (put_back parent place f) node chars m = absurd m
rewords t (take_out key) node chars m = absurd m
rewords t (rename key name) node chars m = absurd m
rewords t (write key name place value) node chars m = absurd m
rewords t (reword key text) node chars m = λ i. reword (sym m.0 i) (sym m.1 i)

-- where a change was made the nodes are sound, and where memory is wanting they are as they were
pub sound_either : {T E : Type 0} (r : Result T E) (old new : Nodes) → IsSound old → OnOk r (IsSound new) → OnErr r (new ≡ old) → IsSound new
sound_either (Ok x) old new was sound same = sound
sound_either (Err x) old new was sound same = subst IsSound (sym same) was
