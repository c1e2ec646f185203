-- The nodes stand for the document with a part put back.
use Rattle.std.proofs.Common.{◌≡◌, ◌≢◌, ◌⊎◌, ℕ, ◌+◌, ◌≤◌, [], ◌∷◌, length, insert, sym, ap, ◌∙◌, Bool, true, false, ◌==◌, if◌then◌else◌, refl, inl, inr, arith}
use Rattle.std.proofs.lemmas.Bool.{eq-eqb}
use Rattle.std.proofs.lemmas.Option.{same_Some}
use Rattle.xs_names.specs.Names.{NameTable}
use Rattle.tree_rows.specs.Forest.{Forest, none, text, element, Document, deepest_of}
use Rattle.tree_rows.specs.Whole.{times}
use Rattle.tree_edits.specs.Edits.{has, Found, with_children, replaced}
use Rattle.tree_edits.specs.Tests.{width_of, depth_of}
use Rattle.tree_edits.proofs.Keeping.{joins_at}
use Rattle.tree_edits.proofs.Lying.{lies, times_changed, deepest_here}
use Rattle.doc_nodes.specs.Nodes.{Node, Nodes, node, IsNode, IsSound as AreSound}
use Rattle.doc_nodes.proofs.Among.{same_or_other}
use Rattle.doc_changes.specs.Stands.{firsts, StandFor, StandsFor}
use Rattle.doc_changes.proofs.Lain.{at, depth_at}
use Rattle.doc_changes.proofs.Standing.{stand_same, has_times, present_times, absent_times}
use Rattle.doc_changes.proofs.Changing.{stands_changed, still_there, not_key}
use Rattle.doc_changes.proofs.Inserting.{firsts_insert, stand_insert}
use Rattle.doc_changes.proofs.Placing.{IsParent, parent_of, width_firsts}
use Rattle.tree_edits.specs.Sites.{first_number}
use Rattle.tree_edits.specs.Inverses.{changed, CanPutBack, IsOne, put_back}
use Rattle.tree_edits.proofs.Fitting.{kept}
use Rattle.doc_tree.specs.Parts.{Grafts}

pub firsts_one : (f : Forest) → IsOne f → firsts f ≡ first_number f ∷ []
firsts_one none o = absurd o
firsts_one (text n chars next) o = ap (λ g. n ∷ firsts g) o
firsts_one (element n name bindings attributes children next) o = ap (λ g. n ∷ firsts g) o

module _ (t : NameTable) (old new : Nodes) (d : Document) (parent place : ℕ) (f : Forest) (z : StandsFor t old d) (fits : CanPutBack d parent place f) where
  abbrev pub own : IsParent t old d parent
  own = parent_of t old d parent z fits.element

  abbrev change : Forest → Forest
  change = with_children place f

  abbrev it : Found
  it = record { depth = (own).depth; node = element parent (own).name (own).bindings (own).attributes (own).children none }

  pub own_depth : (own).shown.it.depth ≡ (own).depth
  own_depth =
      depth_at t old d z parent (own).shown.it (own).shown.is
      ∙ ap (λ (i : Found). i.depth) (same_Some (at t old d z parent (own).shown.it (own).shown.is).0 it (sym (at t old d z parent (own).shown.it (own).shown.is).1 ∙ (own).is_found))

  pub own_high : (own).shown.it.depth ≤ 128
  own_high =
      let a = deepest_here parent 1 d.forest it (lies parent 1 d.forest it (own).is_found) in
      let b = z.tree.shallow in let c = own_depth in omega (arith, a, b, c)

  pub own_shallow : deepest_of ((own).shown.it.depth + 1) f ≤ 128
  own_shallow = let a = fits.shallow in let b = ap (λ o. deepest_of (depth_of o + 1) f) (own).is_found in let c = ap (λ k. deepest_of (k + 1) f) own_depth in omega (arith, a, b, c)

  pub own_within : place ≤ length (own).shown.it.children
  own_within =
      let a = fits.within in let b = ap width_of (own).is_found in let c = ap length (own).shown.children_are in let e = width_firsts (own).children in
      omega (arith, a, b, c, e)

  -- no number of the part is one of the document
  apart : (m : ℕ) → has m d.forest ≡ true → has m f ≡ false
  apart m h = let a = has_times m d.forest h in let b = fits.differ m in absent_times m f (omega (arith, a, b))

  module _ (grafts : Grafts t old new parent place f) (sound : AreSound new) where
    below_in : (m : ℕ) → has m (own).children ≡ true → (has m d.forest ≡ true) × (m ≢ parent)
    below_in m h =
        let a = times_changed m parent 1 (λ node. none) d.forest it (lies parent 1 d.forest it (own).is_found) in
        let b = has_times m (own).children h in
        let c = times_changed parent parent 1 (λ node. none) d.forest it (lies parent 1 d.forest it (own).is_found) in
        let e = z.tree.differ parent in
        let k : ◌≡◌ {A = ℕ} (if parent == parent then 1 else 0) 1 = ap (λ b. if b then 1 else 0) (eq-eqb parent parent refl) in
        (present_times m d.forest (omega (arith, a, b)), not_key parent (own).children (omega (arith, c, e, k)) m h)

    children_stand : StandFor t new (own).children
    children_stand = stand_same t old new (own).children (λ m h. let w = below_in m h in grafts.others m (apart m w.0) w.1) (own).below

    node_stands : StandFor t new (change it.node)
    node_stands = (
      record {
        it = record (own).shown.it { children = insert (own).shown.it.children place (first_number f) };
        is = grafts.parent (own).shown.it (own).shown.is;
        parts = (own).shown.parts;
        content = (own).shown.content;
        known = (own).shown.known;
        name_is = (own).shown.name_is;
        bindings_are = (own).shown.bindings_are;
        attributes_are = (own).shown.attributes_are;
        children_are = ap (λ l. insert l place (first_number f)) (own).shown.children_are ∙ sym (firsts_insert place (first_number f) f (own).children (firsts_one f fits.one));
      },
      stand_insert t new place f (own).children grafts.stand children_stand,
      tt,
    )

    more_times : (m : ℕ) → times m (change it.node) ≡ times m it.node + times m f
    more_times m = let j = (joins_at place f (own).children).numbers m in omega (arith, j)

    same_but : (x : Node) → IsNode new parent x → (y : Node) × IsNode old parent y × (x.parent ≡ y.parent) × (x.depth ≡ y.depth)
    same_but x h =
        let y = (own).shown.it in
        let same = same_Some x (record y { children = insert y.children place (first_number f) }) (sym h ∙ grafts.parent y (own).shown.is) in
        (y, (own).shown.is, ap (λ (n : Node). n.parent) same, ap (λ (n : Node). n.depth) same)

    was_there : (m : ℕ) → has m d.forest ≡ true → has m (replaced parent change d.forest) ≡ true
    was_there m h = still_there d parent m change it (own).is_found (let a = more_times m in omega (arith, a)) h

    is_new : (m : ℕ) → has m f ≡ true → has m (replaced parent change d.forest) ≡ true
    is_new m h =
        let a = times_changed m parent 1 change d.forest it (lies parent 1 d.forest it (own).is_found) in
        let b = times_changed m parent 1 (λ node. none) d.forest it (lies parent 1 d.forest it (own).is_found) in
        let c = more_times m in let e = has_times m f h in
        present_times m (replaced parent change d.forest) (omega (arith, a, b, c, e))

    only : (m : ℕ) (x : Node) → IsNode new m x → has m (replaced parent change d.forest) ≡ true
    only m x h = by (has m f) refl
      where
        old_node : has m f ≡ false → (m ≡ parent) ⊎ (m ≢ parent) → has m d.forest ≡ true
        old_node l (inl e) = z.only m (own).shown.it (ap (node old) e ∙ (own).shown.is)
        old_node l (inr k) = z.only m x (sym (grafts.others m l k) ∙ h)

        by : (b : Bool) → has m f ≡ b → has m (replaced parent change d.forest) ≡ true
        by true e = is_new m e
        by false e = was_there m (old_node e (same_or_other m parent))

    pub grafted : StandsFor t new (changed d (put_back parent place f))
    grafted =
        stands_changed t old new d parent d.next_free change it z sound (own).is_found (kept d (put_back parent place f) z.tree fits)
        (λ m h k. grafts.others m (apart m h) k) same_but node_stands refl only (grafts.size ∙ z.next)
