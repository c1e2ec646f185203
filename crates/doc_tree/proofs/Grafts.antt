-- A part that fits a document is put among its nodes.
use Rattle.std.proofs.Common.{◌≡◌, ℕ, ◌≤◌, List, [], length, sym, ap, ◌∙◌, subst, Option, Some, None, refl, arith}
use Rattle.std.specs.List.{insert_slice}
use Rattle.std.proofs.lemmas.Option.{same_Some}
use Rattle.xs_names.specs.Names.{NameTable}
use Rattle.tree_rows.specs.Forest.{Forest, none, text, element, Document}
use Rattle.tree_rows.specs.Whole.{AreNodes}
use Rattle.tree_edits.proofs.BlockNaming.{HaveNames}
use Rattle.doc_nodes.specs.Nodes.{Node, Nodes, node, IsNode}
use Rattle.doc_changes.specs.Stands.{StandsFor}
use Rattle.doc_changes.proofs.Standing.{has_times}
use Rattle.doc_changes.specs.inside.Growing.{before, AreFree, Planted}
use Rattle.doc_changes.proofs.Growth.{slice_of_one}
use Rattle.doc_changes.proofs.Rooting.{number_in}
use Rattle.tree_edits.specs.Inverses.{CanPutBack}
use Rattle.tree_edits.specs.Sites.{first_number}
use Rattle.doc_tree.specs.Parts.{IsPart, Grafts}
use Rattle.doc_tree.specs.inside.Putting.{HoldsOne}
use Rattle.doc_tree.specs.declared.part.PartRow.{PartRow}
use Rattle.doc_tree.proofs.Grafting.{own, own_high, own_shallow, own_within, firsts_one}

names_of : (free : ℕ) (f : Forest) → AreNodes free f → HaveNames f
names_of free none a = tt
names_of free (text n chars next) a = names_of free next a.1
names_of free (element n name bindings attributes children next) a = (a.1, names_of free children a.2, names_of free next a.3)

module _ (t : NameTable) (old : Nodes) (d : Document) (parent place : ℕ) (f : Forest) (z : StandsFor t old d) (fits : CanPutBack d parent place f) where
  free : AreFree old f
  free m h = (by (node old m) refl, (let n = (number_in d.next_free m f fits.nodes h).1 in let l = z.next in omega (arith, n, l)))
    where
      by : (o : Option Node) → node old m ≡ o → node old m ≡ None
      by None e = e
      by (Some x) e =
          let a = has_times m d.forest (z.only m x e) in let b = has_times m f h in let c = fits.differ m in
          absurd (omega (arith, a, b, c))

  pub holds : (rows : List PartRow) → IsPart t rows f → HoldsOne t old parent 1 rows f []
  holds rows are = record {
    are = are;
    stops = tt;
    can = record {
      it = (own t old old d parent place f z fits).shown.it;
      is = (own t old old d parent place f z fits).shown.is;
      high = own_high t old old d parent place f z fits;
      shallow = own_shallow t old old d parent place f z fits;
      free = free;
      differ = λ m. let c = fits.differ m in omega (arith, c);
      names = names_of d.next_free f fits.nodes;
      few = (let c = fits.few in omega (arith, c));
      sound = z.links;
    };
    level = λ it is. omega arith;
    one = fits.one;
  }

  pub within : (it : Node) → IsNode old parent it → place ≤ length it.children
  within it is = subst (λ (x : Node). place ≤ length x.children) (same_Some (own t old old d parent place f z fits).shown.it it (sym (own t old old d parent place f z fits).shown.is ∙ is)) (own_within t old old d parent place f z fits)

  pub grafts : (new : Nodes) → Planted t old new parent (before place) f → Grafts t old new parent place f
  grafts new planted = record {
    size = planted.size;
    parent = λ it is.
        planted.parent it is
        ∙ ap (λ l. Some (record it { children = l })) (ap (insert_slice it.children place) (firsts_one f fits.one) ∙ sym (slice_of_one it.children place (first_number f)));
    stand = planted.stand;
    others = planted.others;
  }
