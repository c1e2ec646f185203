-- What is another at the element that a change begins at, once the change is made.
use Rattle.std.proofs.Common.{◌≡◌, ◌≢◌, ℕ, ◌+◌, List, Bool, true, false, Option, None, Some, refl, sym, ap, ◌∙◌, subst, inl, arith, length}
use Rattle.std.specs.Prelude.{Result, Ok, Err, OnOk}
use Rattle.std.specs.Option.{option_and_then}
use Rattle.std.proofs.lemmas.Bool.{false≢true}
use Rattle.std.proofs.lemmas.Option.{none-some}
use Rattle.xs_names.specs.Names.{NameTable}
use Rattle.tree_rows.specs.Forest.{none, Document}
use Rattle.tree_edits.specs.Tests as tests
use Rattle.tree_edits.specs.declared.edit.Edit.TheVariants as edits
use Rattle.compiled_schema.specs.declared.compiled.Compiled.{Compiled}
use Rattle.doc_nodes.specs.Nodes.{Node, Nodes, node, IsNode, IsSound, Holds, is_element, is_element_by, is_element_at}
use Rattle.doc_nodes.specs.declared.content.Content.{Content}
use Rattle.doc_nodes.specs.declared.content.Content.TheVariants as contents
use Rattle.doc_changes.specs.Held.{parent_at, set_number, unset_number}
use Rattle.doc_changes.specs.Parts.{IsOver}
use Rattle.doc_changes.specs.Stands.{StandsFor}
use Rattle.doc_changes.proofs.Attributed.{holds_attribute}
use Rattle.doc_changes.proofs.Changing.{some_place}
use Rattle.doc_changes.proofs.Holding.{HoldsElement, HoldsChars, IsTextOf, text_of, holds_element, holds_chars}
use Rattle.doc_changes.proofs.Placing.{IsParent, parent_of}
use Rattle.doc_edits.specs.Changes.{CanMake, IsMade, changed}
use Rattle.doc_edits.specs.declared.change.Change.{Change}
use Rattle.doc_edits.specs.declared.change.Change.TheVariants as changes
use Rattle.kept_children.specs.from_kept_state.Kept.{IsBeside}
use Rattle.kept_children.specs.from_kept_state.KeptState.{KeptState}
use Rattle.kept_children.proofs.from_kept_forgetting.Placed.{parent-has, parent-element, root-alone}
use Rattle.kept_children.specs.from_child_lists.ChildPlace.{ChildPlace}
use Rattle.kept_children.specs.Edited.{IsRightFor, IsRenamed}
use Rattle.kept_changes.specs.Own.{Retexts, Reattributes, Renames, IsRetexted, IsReattributed, IsNamedAnew}
use Rattle.kept_changes.specs.Spots.{IsRemoval, IsSpot, HasChangedAt, TakesSpot}
use Rattle.kept_children.specs.Steps.{width}
use Rattle.kept_changes.specs.Steps.{Takes, TakesName, TakesAway, TakesBelow}
use Rattle.kept_changes.specs.declared.change.Spot.{Spot}
use Rattle.kept_changes.specs.declared.change.Spot.TheVariants.{Planted, Pruned, Retexted, Attributed, Renamed}
use Rattle.kept_changes.proofs.Changed.{text-held, element-reattributed, element-renamed, text-planted, text-pruned}
use Rattle.kept_changes.proofs.Came.{come-elements, come-up, part-came, plants-come}

-- ---- nodes

-- what has a parent and is no element is a text
pub text-by : (ns : Nodes) (key p : ℕ) → is_element_at ns key ≡ false → parent_at ns key ≡ Some p → HoldsChars ns key
text-by ns key p is up = by (node ns key) refl
  where
    content-by : (it : Node) → IsNode ns key it → (held : Content) → it.content ≡ held → HoldsChars ns key
    content-by it e (contents.Element x) f = absurd (false≢true (sym is ∙ ap is_element_by e ∙ ap is_element f))
    content-by it e (contents.Chars chars) f = record { it = it; is = e; chars = chars; holds = f }

    by : (o : Option Node) → node ns key ≡ o → HoldsChars ns key
    by None e = absurd (none-some p (sym (ap (option_and_then (λ (x : Node). x.parent)) e) ∙ up))
    by (Some it) e = content-by it e it.content refl

-- nothing is below a text
pub text-over : (t : NameTable) (ns : Nodes) (d : Document) → StandsFor t ns d → (key : ℕ) → HoldsChars ns key → IsOver t ns key none
text-over t ns d z key h =
    let own : IsTextOf t ns d key = text_of t ns d z key h.it h.chars h.is h.holds in record {
      it = own.shown.text;
      is = own.shown.is;
      children = own.shown.no_children;
      stand = tt;
      differ = λ m. omega arith;
      outside = refl;
      high = inl refl;
      shallow = omega arith;
      few = omega arith;
      sound = z.links;
    }

-- ---- what is kept is beside the nodes

-- that have all elements which were there
beside-more : (c : Compiled) (old new : Nodes) (k : KeptState) (d : Document) → IsBeside c old k → StandsFor c.names new d → ((n : ℕ) → is_element_at old n ≡ true → is_element_at new n ≡ true) → IsBeside c new k
beside-more c old new k d b z stay = record {
  over = (d, record { usable = b.over.1.usable; stands = z; only = λ n made. stay n (b.over.1.only n made) });
  governed = b.governed;
  plain = b.plain;
  booked = b.booked;
  own = b.own;
}

-- where an element has another name, only that is another
pub renames-of : (c : Compiled) (ns : Nodes) (k : KeptState) (n : ℕ) (h : IsNamedAnew c ns k n) → Renames h.old ns n
renames-of c ns k n h =
    element-renamed c.names h.old ns h.right.beside.over.0 h.right.beside.over.1.stands n h.node h.is (contents.Element (record h.element { name = h.name })) h.holds h.element
    (record h.element { name = h.name }) refl h.content refl refl

-- it is an element as before
pub named-element : (c : Compiled) (ns : Nodes) (k : KeptState) (n : ℕ) → IsNamedAnew c ns k n → is_element_at ns n ≡ true
named-element c ns k n h = (renames-of c ns k n h).elements.elements n ∙ ap is_element_by h.is ∙ ap is_element h.content

-- where it stands among the child elements of its parent
pub named-child : (c : Compiled) (ns : Nodes) (k : KeptState) (n : ℕ) → IsNamedAnew c ns k n → (at : ChildPlace) → at.node ≡ n → IsRenamed c ns k at
named-child c ns k n h at same = record {
  old = h.old;
  right = h.right;
  node = h.node;
  is = subst (λ (m : ℕ). IsNode h.old m h.node) (sym same) h.is;
  element = h.element;
  content = h.content;
  name = h.name;
  holds = subst (λ (m : ℕ). Holds h.old ns m (contents.Element (record h.element { name = h.name }))) (sym same) h.holds;
}

-- where it has no parent, it is the root
pub named-root : (c : Compiled) (ns : Nodes) (k : KeptState) (n : ℕ) → IsBeside c ns k → IsNamedAnew c ns k n → parent_at ns n ≡ None → n ≡ 1
named-root c ns k n beside h bare = root-alone c.names ns beside.over.0 beside.over.1.stands n (named-element c ns k n h) bare

pub changed-beside : (c : Compiled) (ns : Nodes) (k : KeptState) (d : Document) (spot : Spot) → StandsFor c.names ns d → HasChangedAt c ns k spot → IsBeside c ns k
changed-beside c ns k d (Planted n) z h = beside-more c h.old ns k d h.right.beside z (come-elements h.old ns h.parent h.place n h.comes)
changed-beside c ns k d (Pruned n) z h = absurd h
changed-beside c ns k d (Retexted n) z h = beside-more c h.old ns k d h.right.beside z (λ m is. h.retexts.elements.elements m ∙ is)
changed-beside c ns k d (Attributed n) z h = beside-more c h.old ns k d h.right.beside z (λ m is. h.reattributes.elements.elements m ∙ is)
changed-beside c ns k d (Renamed n) z h = beside-more c h.old ns k d h.right.beside z (λ m is. (renames-of c ns k n h).elements.elements m ∙ is)

-- ---- what is another

module _ (c : Compiled) (old new : Nodes) (k : KeptState) (r : IsRightFor c old k) (d : Document) (z : StandsFor c.names old d) (sound : IsSound new) where
  retexted : (n : ℕ) → is_element_at old n ≡ true → Retexts old new n → IsRetexted c new k n
  retexted n is same = record { old = old; right = r; element = is; retexts = same }

  reattributed : (n : ℕ) (h : HoldsElement old n) → Reattributes old new n → IsReattributed c new k n
  reattributed n h same = record { old = old; right = r; element = ap is_element_by h.is ∙ ap is_element h.holds; reattributes = same }

  added : (parent place : ℕ) (chars : List ℕ) → CanMake c.names old d (changes.AddText parent place chars) → IsMade c.names old new (changes.AddText parent place chars) → IsRetexted c new k parent
  added parent place chars can made =
      let own : IsParent c.names old d parent = parent_of c.names old d parent z can.element in
      retexted parent (ap is_element_by own.shown.is ∙ ap is_element own.shown.content) (text-planted c.names old new d z parent place own.shown.it own.shown.is chars made)

  rewritten : (key p : ℕ) (chars : List ℕ) → parent_at old key ≡ Some p → CanMake c.names old d (changes.SetText key chars) → IsMade c.names old new (changes.SetText key chars) → IsRetexted c new k p
  rewritten key p chars up can made =
      let h : HoldsChars old key = holds_chars old key can in
      retexted p (parent-element c.names old d z key p up) (text-held c.names old new d z key h.it h.is (contents.Chars chars) made p chars h.chars refl h.holds up)

  text-gone : (key p : ℕ) → is_element_at old key ≡ false → parent_at old key ≡ Some p → IsMade c.names old new (changes.Remove key) → IsRetexted c new k p
  text-gone key p is up made =
      let h : HoldsChars old key = text-by old key p is up in
      let above = parent-has old z.links key p up in
      let place = some_place key above.0.children above.2 in
      retexted p (parent-element c.names old d z key p up)
      (text-pruned c.names old new d z p place.0 above.0 above.1 key h.it h.is h.chars h.holds place.1 (made none (text-over c.names old d z key h) p place.0 (above.0, above.1, place.1)))

  removed : (key : ℕ) (spot : Spot) → IsRemoval old key spot → ((n : ℕ) → spot ≡ Pruned n → ⊥) → IsMade c.names old new (changes.Remove key) → HasChangedAt c new k spot
  removed key (Planted n) is here made = absurd is
  removed key (Pruned n) is here made = absurd (here n refl)
  removed key (Retexted n) is here made = text-gone key n is.0 is.1 made
  removed key (Attributed n) is here made = absurd is
  removed key (Renamed n) is here made = absurd is

  set : (key name : ℕ) (value : List ℕ) (h : HoldsElement old key) → IsMade c.names old new (changes.SetAttr key name value) → IsReattributed c new k key
  set key name value h made =
      reattributed key h
      (element-reattributed c.names old new d z key h.it h.is (contents.Element (record h.e { attributes = set_number name value h.e.attributes })) (made h.it h.e h.is h.holds) h.e
      (record h.e { attributes = set_number name value h.e.attributes }) refl h.holds refl refl)

  unset : (key name : ℕ) (h : HoldsElement old key) → IsMade c.names old new (changes.UnsetAttr key name) → IsReattributed c new k key
  unset key name h made =
      reattributed key h
      (element-reattributed c.names old new d z key h.it h.is (contents.Element (record h.e { attributes = unset_number name h.e.attributes })) (made h.it h.e h.is h.holds) h.e
      (record h.e { attributes = unset_number name h.e.attributes }) refl h.holds refl refl)

  named : (key name : ℕ) (h : HoldsElement old key) → IsMade c.names old new (changes.Rename key name) → IsNamedAnew c new k key
  named key name h made = record { old = old; right = r; node = h.it; is = h.is; element = h.e; content = h.holds; name = name; holds = made h.it h.e h.is h.holds }

  named-parent : (key name : ℕ) (h : HoldsElement old key) → IsMade c.names old new (changes.Rename key name) → parent_at new key ≡ parent_at old key
  unfolding named
  named-parent key name h made = (renames-of c new k key (named key name h made)).elements.parents key (ap is_element_by h.is ∙ ap is_element h.holds)

  pub changed-at : (change : Change) (spot : Spot) → IsSpot old change spot → ((n : ℕ) → spot ≡ Pruned n → ⊥) → CanMake c.names old d change → IsMade c.names old new change → HasChangedAt c new k spot
  changed-at (changes.Insert parent index part) spot is here can made = subst (HasChangedAt c new k) (sym is.0) (part-came c old new k r d z sound parent index part is.1 can.0 made)
  changed-at (changes.AddText parent index chars) spot is here can made = subst (HasChangedAt c new k) (sym is) (added parent index chars can made)
  changed-at (changes.SetText key chars) spot is here can made = subst (HasChangedAt c new k) (sym is.2) (rewritten key is.0 chars is.1 can made)
  changed-at (changes.Remove key) spot is here can made = removed key spot is here made
  changed-at (changes.Rename key name) spot is here can made = subst (HasChangedAt c new k) (sym is) (named key name (holds_element old key can.0) made)
  changed-at (changes.SetAttr key name value) spot is here can made = subst (HasChangedAt c new k) (sym is) (set key name value (holds_element old key can.0) made)
  changed-at (changes.UnsetAttr key name) spot is here can made = subst (HasChangedAt c new k) (sym is) (unset key name (holds_attribute old key name can) made)

  -- ---- the steps

  module _ (first last : ℕ) where
    removed-takes : (key : ℕ) (spot : Spot) → IsRemoval old key spot → ((n : ℕ) → spot ≡ Pruned n → ⊥) → TakesSpot c new k spot first last → Takes c old new k (changes.Remove key) first last
    removed-takes key (Planted n) is here takes = absurd is
    removed-takes key (Pruned n) is here takes = absurd (here n refl)
    removed-takes key (Retexted n) is here takes = subst (λ (b : Bool). TakesAway c new k b (parent_at old key) first last) (sym is.0) takes
    removed-takes key (Attributed n) is here takes = absurd is
    removed-takes key (Renamed n) is here takes = absurd is

    pub takes-change : (change : Change) (spot : Spot) → IsSpot old change spot → ((n : ℕ) → spot ≡ Pruned n → ⊥) → CanMake c.names old d change → IsMade c.names old new change →
        TakesSpot c new k spot first last → Takes c old new k change first last
    takes-change (changes.Insert parent index part) spot is here can made takes =
        subst (λ (x : Spot). TakesSpot c new k x first last) is.0 takes parent (come-up c.names old new d z sound parent index (length old) can.0.element (plants-come c.names old new parent index part.forest made))
    takes-change (changes.AddText parent index chars) spot is here can made takes = subst (λ (x : Spot). TakesSpot c new k x first last) is takes
    takes-change (changes.SetText key chars) spot is here can made takes = subst (λ (x : Spot). TakesSpot c new k x first last) is.2 takes
    takes-change (changes.Remove key) spot is here can made takes = removed-takes key spot is here takes
    takes-change (changes.Rename key name) spot is here can made takes =
        subst (λ (o : Option ℕ). TakesName c new k key o first last) (named-parent key name (holds_element old key can.0) made) (subst (λ (x : Spot). TakesSpot c new k x first last) is takes)
    takes-change (changes.SetAttr key name value) spot is here can made takes = subst (λ (x : Spot). TakesSpot c new k x first last) is takes
    takes-change (changes.UnsetAttr key name) spot is here can made takes = subst (λ (x : Spot). TakesSpot c new k x first last) is takes

-- an element that is taken away
pub pruned-change : (ns : Nodes) (change : Change) (n : ℕ) → IsSpot ns change (Pruned n) → (change ≡ changes.Remove n) × (is_element_at ns n ≡ true)
pruned-change ns (changes.Insert parent index part) n is = let bad : Pruned n ≡ Planted (length ns) = is.0 in absurd (cc)
pruned-change ns (changes.AddText parent index chars) n is = let bad : Pruned n ≡ Retexted parent = is in absurd (cc)
pruned-change ns (changes.SetText key chars) n is = let bad : Pruned n ≡ Retexted is.0 = is.2 in absurd (cc)
pruned-change ns (changes.Remove key) n is = (ap changes.Remove (sym is.0), subst (λ (m : ℕ). is_element_at ns m ≡ true) (sym is.0) is.1)
pruned-change ns (changes.Rename key name) n is = let bad : Pruned n ≡ Renamed key = is in absurd (cc)
pruned-change ns (changes.SetAttr key name value) n is = let bad : Pruned n ≡ Attributed key = is in absurd (cc)
pruned-change ns (changes.UnsetAttr key name) n is = let bad : Pruned n ≡ Attributed key = is in absurd (cc)

-- the steps of its removal
pub takes-removal : (c : Compiled) (old new : Nodes) (k : KeptState) (change : Change) (n : ℕ) → IsSpot old change (Pruned n) → parent_at old n ≢ None → (first last : ℕ) →
    ((parent : ℕ) → parent_at old n ≡ Some parent → TakesBelow c new k parent (width new parent + 1) first last) → Takes c old new k change first last
takes-removal c old new k change n is below first last takes =
    let e = pruned-change old change n is in
    subst (λ (x : Change). Takes c old new k x first last) (sym e.0) (subst (λ (b : Bool). TakesAway c new k b (parent_at old n) first last) (sym e.1) (by (parent_at old n) refl))
  where
    by : (o : Option ℕ) → parent_at old n ≡ o → TakesAway c new k true o first last
    by None q = absurd (below q)
    by (Some p) q = takes p q

pub removal-stands : (t : NameTable) (old new : Nodes) (change : Change) (n : ℕ) → IsSpot old change (Pruned n) → ((d : Document) → StandsFor t old d → StandsFor t new (tests.made d (edits.Remove n))) →
    (d : Document) → StandsFor t old d → StandsFor t new (changed t d change)
removal-stands t old new change n is stands d z = subst (λ (x : Change). StandsFor t new (changed t d x)) (sym (pruned-change old change n is).0) (stands d z)

-- what holds in any case holds of an Ok
pub ok-of : {T E P : Type 0} (r : Result T E) → P → OnOk r P
ok-of (Ok x) p = p
ok-of (Err e) p = tt
