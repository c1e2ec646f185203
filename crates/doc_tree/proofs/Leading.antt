-- Where changes lead: as tables and next free numbers grow, and back.
use Rattle.std.proofs.Common.{◌≡◌, ℕ, ◌+◌, ◌<◌, ◌≤◌, List, length, true, Ok, refl, sym, ap, ◌∙◌, subst, arith}
use Rattle.xs_names.specs.Names.{NameTable, IsSound, Grown}
use Rattle.tree_rows.specs.Forest.{Forest, none, text, element, Document}
use Rattle.tree_rows.specs.Whole.{IsTree}
use Rattle.tree_edits.specs.Edits.{can_be_made}
use Rattle.tree_edits.specs.Tests.{edited}
use Rattle.tree_edits.specs.declared.edit.Edit.{Edit}
use Rattle.tree_edits.proofs.Keeping.{nodes_more}
use Rattle.tree_edits.proofs.Testing.{edited_keeps}
use Rattle.doc_changes.proofs.Standing.{expanded_grown}
use Rattle.doc_changes.proofs.PlantedNames.{called_grown}
use Rattle.tree_edits.specs.Inverses.{changed, inverse_of, Fits, put_back, take_out, rename, write, reword}
use Rattle.tree_edits.specs.Inverses as law
use Rattle.tree_edits.specs.EditChanges.{change_of}
use Rattle.tree_edits.proofs.Fitting.{fits_back}
use Rattle.tree_edits.proofs.Inverses.{undone}
use Rattle.tree_edits.proofs.Undone.{is_change, edit_fits}
use Rattle.doc_tree.specs.Changes.{Means}
use Rattle.doc_tree.specs.Leads.{document, Leads}
use Rattle.doc_tree.specs.Parts.{AreRows}
use Rattle.doc_tree.specs.declared.change.Change.{Change}
use Rattle.doc_tree.specs.declared.change.Change.TheVariants as changes
use Rattle.doc_tree.specs.declared.part.PartRow.{PartRow}

-- ---- as they grow

module _ (t u : NameTable) (g : Grown t u) (sound : IsSound t) where
  rows_grown : (depth : ℕ) (rows : List PartRow) (f : Forest) (left : List PartRow) → AreRows t depth rows f left → AreRows u depth rows f left
  rows_grown depth rows none left a = a
  rows_grown depth rows (text number chars next) left a = (a.0, a.1, rows_grown depth a.0 next left a.2)
  rows_grown depth rows (element number name bindings attributes children next) left a = (
    a.0,
    called_grown t u g sound a.0 name bindings attributes a.1,
    a.2,
    a.3,
    a.4,
    rows_grown (depth + 1) a.2 children a.4 a.5,
    rows_grown depth a.4 next left a.6,
  )

  named_on : (n : ℕ) → n < length t.names → n < length u.names
  named_on n l = let m = g.more_names in omega (arith, l, m)

  pub means_grown : (change : Change) (c : law.Change) → Means t change c → Means u change c
  means_grown (changes.PutBack p k part) (put_back parent place f) m = (m.0, m.1, rows_grown 1 part f _ m.2)
  means_grown (changes.Take node) (take_out key) m = m
  means_grown (changes.Name node n) (rename key name) m = (m.0, named_on n m.1, expanded_grown t u g sound n m.1 ∙ m.2)
  means_grown (changes.Attr node n k v) (write key name place value) m = (m.0, named_on n m.1, expanded_grown t u g sound n m.1 ∙ m.2, m.3, m.4)
  means_grown (changes.Chars node chars) (reword key other) m = m
  means_grown change c m = absurd m

fits_more : (f : Forest) (free more : ℕ) (c : law.Change) → free ≤ more → Fits (document f free) c → Fits (document f more) c
fits_more f free more (put_back parent place part) l fits = record {
  element = fits.element;
  within = fits.within;
  one = fits.one;
  nodes = nodes_more free more part l fits.nodes;
  differ = fits.differ;
  few = fits.few;
  shallow = fits.shallow;
}
fits_more f free more (take_out key) l fits = fits
fits_more f free more (rename key name) l fits = fits
fits_more f free more (write key name place value) l fits = fits
fits_more f free more (reword key chars) l fits = fits

makes_more : (f g : Forest) (free more : ℕ) (c : law.Change) → changed (document f free) c ≡ document g free → changed (document f more) c ≡ document g more
makes_more f g free more (put_back parent place part) e = ap (λ (x : Document). document x.forest more) e
makes_more f g free more (take_out key) e = ap (λ (x : Document). document x.forest more) e
makes_more f g free more (rename key name) e = ap (λ (x : Document). document x.forest more) e
makes_more f g free more (write key name place value) e = ap (λ (x : Document). document x.forest more) e
makes_more f g free more (reword key chars) e = ap (λ (x : Document). document x.forest more) e

pub leads_on : (t u : NameTable) (free more : ℕ) (change : Change) (old new : Forest) → IsSound t → Grown t u → free ≤ more → Leads t free change old new → Leads u more change old new
leads_on t u free more change old new sound g l leads = record {
  own = leads.own;
  means = means_grown t u g sound change leads.own leads.means;
  fits = fits_more old free more leads.own l leads.fits;
  makes = makes_more old new free more leads.own leads.makes;
}

-- ---- and back

-- no change makes another next free number, and the inverse goes by the tree alone
free_stays : (d : Document) (c : law.Change) → changed d c ≡ document (changed d c).forest d.next_free
free_stays d (put_back parent place part) = refl
free_stays d (take_out key) = refl
free_stays d (rename key name) = refl
free_stays d (write key name place value) = refl
free_stays d (reword key chars) = refl

inverse_same : (d : Document) (free : ℕ) (c : law.Change) → inverse_of (document d.forest free) c ≡ inverse_of d c
inverse_same d free (put_back parent place part) = refl
inverse_same d free (take_out key) = refl
inverse_same d free (rename key name) = refl
inverse_same d free (write key name place value) = refl
inverse_same d free (reword key chars) = refl

pub leads_back : (t : NameTable) (d : Document) (c : law.Change) (back : Change) → IsTree d → Fits d c → Means t back (inverse_of d c) → Leads t d.next_free back (changed d c).forest d.forest
leads_back t d c back tree fits means = record {
  own = inverse_of d c;
  means = means;
  fits = subst (λ (x : Document). Fits x (inverse_of d c)) (free_stays d c) (fits_back d c tree fits);
  makes = subst (λ (x : Document). changed x (inverse_of d c) ≡ d) (free_stays d c) (undone d c tree fits);
}

pub edit_leads_back : (t : NameTable) (d e : Document) (edit : Edit) (back : Change) → can_be_made edit ≡ true → IsTree d → edited d edit ≡ Ok e
    → Means t back (inverse_of d (change_of d edit)) → Leads t e.next_free back e.forest d.forest
edit_leads_back t d e edit back can tree ok means =
    let more = document d.forest e.next_free in
    let free = (edited_keeps d edit e tree ok).numbers.free in
    let whole : IsTree more = record { root = tree.root; nodes = nodes_more d.next_free e.next_free d.forest free tree.nodes; differ = tree.differ; few = tree.few; shallow = tree.shallow } in
    let c = change_of d edit in
    subst (λ (x : Document). Leads t e.next_free back x.forest d.forest) (is_change d e edit ok)
    (leads_back t more c back whole (edit_fits d e edit can tree ok) (subst (Means t back) (sym (inverse_same d e.next_free c)) means))
