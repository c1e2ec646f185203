-- A part that was put among the nodes of a document.
use Rattle.std.proofs.Common.{◌≡◌, ℕ, ◌<◌, true, Option, Some, refl, sym, ap, ◌∙◌, subst, inl, inr, arith, length}
use Rattle.std.proofs.lemmas.Bool.{cases_eq}
use Rattle.std.proofs.lemmas.Option.{same_Some}
use Rattle.xs_names.specs.Names.{NameTable}
use Rattle.tree_rows.specs.Forest.{Forest, none, text, element, Document}
use Rattle.tree_rows.specs.Whole.{HasRoot, AreNodes, IsTree}
use Rattle.tree_edits.specs.Edits.{found, renumbered}
use Rattle.tree_edits.specs.Tests as tests
use Rattle.compiled_schema.specs.declared.compiled.Compiled.{Compiled}
use Rattle.doc_nodes.specs.Nodes.{Node, Nodes, node, IsNode, IsSound, Has, children_by, is_element, is_element_by, is_element_at}
use Rattle.doc_nodes.proofs.Among.{has-inserted}
use Rattle.doc_changes.specs.Held.{parent_at}
use Rattle.doc_changes.specs.Stands.{StandFor, StandsFor}
use Rattle.doc_changes.specs.Fits.{Fits}
use Rattle.doc_changes.specs.Planted.{Plants}
use Rattle.doc_changes.proofs.Placing.{IsParent, parent_of}
use Rattle.kept_children.proofs.from_kept_records.Nodes.{by-node}
use Rattle.kept_children.specs.from_kept_state.KeptState.{KeptState}
use Rattle.kept_children.proofs.from_kept_forgetting.Placed.{in-table}
use Rattle.kept_children.specs.Edited.{IsRightFor, IsPlanted, ComesAt}
use Rattle.kept_children.specs.from_child_lists.Places.{IsPlaceOf}
use Rattle.kept_children.specs.from_child_lists.ChildPlace.{ChildPlace}
use Rattle.kept_changes.specs.Spots.{HasCome}
use Rattle.kept_changes.proofs.Changed.{child-up}

-- a tree has a root, whose number was given out
pub free-above : (d : Document) → IsTree d → 1 < d.next_free
free-above d tree = by d.forest tree.root tree.nodes
  where
    by : (f : Forest) → HasRoot f → AreNodes d.next_free f → 1 < d.next_free
    by none root nodes = absurd root
    by (text number chars next) root nodes = absurd root
    by (element number name bindings attributes children next) root nodes = let one = root.0 in let within = nodes.0.1 in omega (arith, one, within)

-- ---- the nodes

-- all that were elements still are
pub come-elements : (old new : Nodes) (p place n : ℕ) → ComesAt old new p place n → (m : ℕ) → is_element_at old m ≡ true → is_element_at new m ≡ true
come-elements old new p place n comes m is =
    let it = by-node old m (node old m) refl is in
    elim (cases_eq m p) [
      | inl e ↦
          let here : IsNode old p it.0 = ap (node old) (sym e) ∙ it.1 in
          ap (is_element_at new) e ∙ ap is_element_by (comes.parent it.0 here) ∙ sym (ap is_element_by here) ∙ ap (is_element_at old) (sym e) ∙ is
      | inr other ↦ ap is_element_by (comes.others m it.0 it.1 other) ∙ is
    ]

-- it is a child of the node
come-below : (old new : Nodes) (p place n : ℕ) → ComesAt old new p place n → (it : Node) → IsNode old p it → Has n (children_by (node new p))
come-below old new p place n comes it is = subst (λ (o : Option Node). Has n (children_by o)) (sym (comes.parent it is)) (has-inserted it.children place n)

-- so it comes below the node
pub come-up : (t : NameTable) (old new : Nodes) (d : Document) → StandsFor t old d → IsSound new → (parent place n : ℕ) → tests.is_element (found parent 1 d.forest) ≡ true → ComesAt old new parent place n →
    parent_at new n ≡ Some parent
come-up t old new d z sound parent place n below comes =
    let own : IsParent t old d parent = parent_of t old d parent z below in
    child-up new sound parent n (come-below old new parent place n comes own.shown.it own.shown.is)

module _ (t : NameTable) (old new : Nodes) (p place : ℕ) (f : Forest) (plants : Plants t old new p place f) where
  root-by : (g : Forest) → HasRoot g → StandFor t new (renumbered (length old) g) → is_element_at new (length old) ≡ true
  root-by none root s = absurd root
  root-by (text number chars next) root s = absurd root
  root-by (element number name bindings attributes children next) root s = ap is_element_by s.0.is ∙ ap is_element s.0.content

  -- the root of a part that is planted is an element
  pub come-root : HasRoot f → is_element_at new (length old) ≡ true
  come-root root = root-by f root plants.stand

  pub plants-come : ComesAt old new p place (length old)
  plants-come = record { parent = plants.parent; others = λ m it is other. plants.others m (in-table old m it is) other }

-- ---- what is kept

pub came : (c : Compiled) (old new : Nodes) (k : KeptState) → IsRightFor c old k → (d : Document) → StandsFor c.names old d → IsSound new → (parent place n : ℕ) →
    tests.is_element (found parent 1 d.forest) ≡ true → is_element_at new n ≡ true → ComesAt old new parent place n → HasCome c new k n
came c old new k r d z sound parent place n below is comes =
    let own : IsParent c.names old d parent = parent_of c.names old d parent z below in record {
      old = old;
      right = r;
      parent = parent;
      parent_is = come-up c.names old new d z sound parent place n below comes;
      element = is;
      was_element = ap is_element_by own.shown.is ∙ ap is_element own.shown.content;
      place = place;
      comes = comes;
    }

pub part-came : (c : Compiled) (old new : Nodes) (k : KeptState) → IsRightFor c old k → (d : Document) → StandsFor c.names old d → IsSound new → (parent place : ℕ) (part : Document) → IsTree part →
    Fits d parent place part.forest → Plants c.names old new parent place part.forest → HasCome c new k (length old)
part-came c old new k r d z sound parent place part tree fits plants =
    came c old new k r d z sound parent place (length old) fits.element (come-root c.names old new parent place part.forest plants tree.root) (plants-come c.names old new parent place part.forest plants)

-- where it stands among the child elements of its parent
pub come-planted : (c : Compiled) (ns : Nodes) (k : KeptState) (n : ℕ) → HasCome c ns k n → (at : ChildPlace) → at.node ≡ n → IsPlaceOf ns at → IsPlanted c ns k at
come-planted c ns k n h at same placed =
    let up : h.parent ≡ at.parent = same_Some h.parent at.parent (sym h.parent_is ∙ subst (λ (m : ℕ). parent_at ns m ≡ Some at.parent) same placed.parent_is) in record {
      old = h.old;
      right = h.right;
      parent = subst (λ (p : ℕ). is_element_at h.old p ≡ true) up h.was_element;
      place = h.place;
      comes = subst (λ (m : ℕ). ComesAt h.old ns at.parent h.place m) (sym same) (subst (λ (p : ℕ). ComesAt h.old ns p h.place n) up h.comes);
    }
