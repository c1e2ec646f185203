-- What the nodes have become at the element that a change begins at.
use Rattle.std.proofs.Common.{◌≡◌, ℕ, List, Bool, true, false, Some, refl, sym, ap, subst, ◌∙◌, length}
use Rattle.std.proofs.lemmas.Bool.{false≢true}
use Rattle.std.proofs.lemmas.Option.{same_Some}
use Rattle.xs_names.specs.Names.{NameTable}
use Rattle.tree_rows.specs.Forest.{none, Document}
use Rattle.tree_rows.specs.Whole.{IsTree}
use Rattle.tree_edits.specs.Edits.{found}
use Rattle.tree_edits.specs.Tests as tests
use Rattle.doc_nodes.specs.Nodes.{Nodes, IsSound, is_element, is_element_by, is_element_at}
use Rattle.doc_nodes.specs.declared.content.Content.TheVariants as contents
use Rattle.doc_changes.specs.Held.{parent_at, set_number, unset_number}
use Rattle.doc_changes.specs.Stands.{StandsFor}
use Rattle.doc_changes.proofs.Attributed.{holds_attribute}
use Rattle.doc_changes.proofs.Changing.{some_place}
use Rattle.doc_changes.proofs.Holding.{HoldsElement, HoldsChars, holds_element, holds_chars}
use Rattle.doc_changes.specs.Fits.{Fits}
use Rattle.doc_changes.specs.Planted.{Plants}
use Rattle.doc_changes.proofs.Placing.{IsParent, parent_of}
use Rattle.doc_edits.specs.Changes.{CanMake, IsMade}
use Rattle.doc_edits.specs.declared.change.Change.{Change}
use Rattle.doc_edits.specs.declared.change.Change.TheVariants as changes
use Rattle.kept_children.proofs.from_kept_forgetting.Placed.{parent-element, parent-has}
use Rattle.kept_children.specs.Edited.{ComesAt}
use Rattle.kept_changes.specs.Own.{Retexts, Reattributes, Renames}
use Rattle.kept_changes.specs.Spots.{IsRemoval, IsSpot}
use Rattle.kept_changes.specs.Turned.{Comes, TurnsAt}
use Rattle.kept_changes.specs.declared.change.Spot.{Spot}
use Rattle.kept_changes.specs.declared.change.Spot.TheVariants.{Planted, Pruned, Retexted, Attributed, Renamed}
use Rattle.kept_changes.proofs.Changed.{text-held, element-reattributed, element-renamed, text-planted, text-pruned}
use Rattle.kept_changes.proofs.Came.{come-root, come-up, plants-come}
use Rattle.kept_changes.proofs.Following.{text-by, text-over}

-- ---- what has changed at each spot

pub comes-there : (t : NameTable) (old new : Nodes) (d : Document) → StandsFor t old d → IsSound new → (parent place n : ℕ) → tests.is_element (found parent 1 d.forest) ≡ true → is_element_at new n ≡ true → ComesAt old new parent place n
    → Comes t old new n
comes-there t old new d z sound parent place n below is comes =
    let own : IsParent t old d parent = parent_of t old d parent z below in record {
      parent = parent;
      place = place;
      was_element = ap is_element_by own.shown.is ∙ ap is_element own.shown.content;
      element = is;
      parent_is = come-up t old new d z sound parent place n below comes;
      comes = comes;
    }

module _ (t : NameTable) (old new : Nodes) (d : Document) (z : StandsFor t old d) (sound : IsSound new) where
  rewritten : (key p : ℕ) (chars : List ℕ) → parent_at old key ≡ Some p → CanMake t old d (changes.SetText key chars) → IsMade t old new (changes.SetText key chars) → (is_element_at old p ≡ true) × Retexts old new p
  rewritten key p chars up can made =
      let h : HoldsChars old key = holds_chars old key can in
      (parent-element t old d z key p up, text-held t old new d z key h.it h.is (contents.Chars chars) made p chars h.chars refl h.holds up)

  added : (parent place : ℕ) (chars : List ℕ) → CanMake t old d (changes.AddText parent place chars) → IsMade t old new (changes.AddText parent place chars) → (is_element_at old parent ≡ true) × Retexts old new parent
  added parent place chars can made =
      let own : IsParent t old d parent = parent_of t old d parent z can.element in
      (ap is_element_by own.shown.is ∙ ap is_element own.shown.content, text-planted t old new d z parent place own.shown.it own.shown.is chars made)

  gone : (key p : ℕ) → is_element_at old key ≡ false → parent_at old key ≡ Some p → IsMade t old new (changes.Remove key) → (is_element_at old p ≡ true) × Retexts old new p
  gone key p is up made =
      let h : HoldsChars old key = text-by old key p is up in
      let above = parent-has old z.links key p up in
      let place = some_place key above.0.children above.2 in (
        parent-element t old d z key p up,
        text-pruned t old new d z p place.0 above.0 above.1 key h.it h.is h.chars h.holds place.1 (made none (text-over t old d z key h) p place.0 (above.0, above.1, place.1)),
      )

  removed : (key : ℕ) (spot : Spot) → IsRemoval old key spot → ((n : ℕ) → spot ≡ Pruned n → ⊥) → IsMade t old new (changes.Remove key) → TurnsAt t old new spot
  removed key (Planted n) is here made = absurd is
  removed key (Pruned n) is here made = absurd (here n refl)
  removed key (Retexted n) is here made = gone key n is.0 is.1 made
  removed key (Attributed n) is here made = absurd is
  removed key (Renamed n) is here made = absurd is

  held-element : (key : ℕ) (h : HoldsElement old key) → is_element_at old key ≡ true
  held-element key h = ap is_element_by h.is ∙ ap is_element h.holds

  set : (key name : ℕ) (value : List ℕ) (h : HoldsElement old key) → IsMade t old new (changes.SetAttr key name value) → Reattributes old new key
  set key name value h made =
      element-reattributed t old new d z key h.it h.is (contents.Element (record h.e { attributes = set_number name value h.e.attributes })) (made h.it h.e h.is h.holds) h.e
      (record h.e { attributes = set_number name value h.e.attributes }) refl h.holds refl refl

  unset : (key name : ℕ) (h : HoldsElement old key) → IsMade t old new (changes.UnsetAttr key name) → Reattributes old new key
  unset key name h made =
      element-reattributed t old new d z key h.it h.is (contents.Element (record h.e { attributes = unset_number name h.e.attributes })) (made h.it h.e h.is h.holds) h.e
      (record h.e { attributes = unset_number name h.e.attributes }) refl h.holds refl refl

  named : (key name : ℕ) (h : HoldsElement old key) → IsMade t old new (changes.Rename key name) → Renames old new key
  named key name h made =
      element-renamed t old new d z key h.it h.is (contents.Element (record h.e { name = name })) (made h.it h.e h.is h.holds) h.e (record h.e { name = name }) refl h.holds refl refl

  planted : (parent index : ℕ) (part : Document) → IsTree part → Fits d parent index part.forest → Plants t old new parent index part.forest → Comes t old new (length old)
  planted parent index part tree fits plants =
      comes-there t old new d z sound parent index (length old) fits.element (come-root t old new parent index part.forest plants tree.root) (plants-come t old new parent index part.forest plants)

  pub turned-at : (change : Change) (spot : Spot) → IsSpot old change spot → ((n : ℕ) → spot ≡ Pruned n → ⊥) → CanMake t old d change → IsMade t old new change → TurnsAt t old new spot
  turned-at (changes.Insert parent index part) spot is here can made = subst (TurnsAt t old new) (sym is.0) (planted parent index part is.1 can.0 made)
  turned-at (changes.AddText parent index chars) spot is here can made = subst (TurnsAt t old new) (sym is) (added parent index chars can made)
  turned-at (changes.SetText key chars) spot is here can made = subst (TurnsAt t old new) (sym is.2) (rewritten key is.0 chars is.1 can made)
  turned-at (changes.Remove key) spot is here can made = removed key spot is here made
  turned-at (changes.Rename key name) spot is here can made = subst (TurnsAt t old new) (sym is) (held-element key (holds_element old key can.0), named key name (holds_element old key can.0) made)
  turned-at (changes.SetAttr key name value) spot is here can made = subst (TurnsAt t old new) (sym is) (held-element key (holds_element old key can.0), set key name value (holds_element old key can.0) made)
  turned-at (changes.UnsetAttr key name) spot is here can made = subst (TurnsAt t old new) (sym is) (held-element key (holds_attribute old key name can), unset key name (holds_attribute old key name can) made)

-- ---- there is one spot

both-ways : (b : Bool) → b ≡ true → b ≡ false → ⊥
both-ways b one other = false≢true (sym other ∙ one)

pub one-removal : (ns : Nodes) (key : ℕ) (a b : Spot) → IsRemoval ns key a → IsRemoval ns key b → a ≡ b
one-removal ns key (Planted n) b p q = absurd p
one-removal ns key (Pruned n) (Planted m) p q = absurd q
one-removal ns key (Pruned n) (Pruned m) p q = ap Pruned (p.0 ∙ sym q.0)
one-removal ns key (Pruned n) (Retexted m) p q = absurd (both-ways (is_element_at ns key) p.1 q.0)
one-removal ns key (Pruned n) (Attributed m) p q = absurd q
one-removal ns key (Pruned n) (Renamed m) p q = absurd q
one-removal ns key (Retexted n) (Planted m) p q = absurd q
one-removal ns key (Retexted n) (Pruned m) p q = absurd (both-ways (is_element_at ns key) q.1 p.0)
one-removal ns key (Retexted n) (Retexted m) p q = ap Retexted (same_Some n m (sym p.1 ∙ q.1))
one-removal ns key (Retexted n) (Attributed m) p q = absurd q
one-removal ns key (Retexted n) (Renamed m) p q = absurd q
one-removal ns key (Attributed n) b p q = absurd p
one-removal ns key (Renamed n) b p q = absurd p

pub one-spot : (ns : Nodes) (change : Change) (a b : Spot) → IsSpot ns change a → IsSpot ns change b → a ≡ b
one-spot ns (changes.Insert parent index part) a b p q = p.0 ∙ sym q.0
one-spot ns (changes.AddText parent index chars) a b p q = p ∙ sym q
one-spot ns (changes.SetText key chars) a b p q = p.2 ∙ ap Retexted (same_Some p.0 q.0 (sym p.1 ∙ q.1)) ∙ sym q.2
one-spot ns (changes.Remove key) a b p q = one-removal ns key a b p q
one-spot ns (changes.Rename key name) a b p q = p ∙ sym q
one-spot ns (changes.SetAttr key name value) a b p q = p ∙ sym q
one-spot ns (changes.UnsetAttr key name) a b p q = p ∙ sym q
