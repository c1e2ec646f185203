-- What holds of an element as soon as a child element came.
use Rattle.std.proofs.Common.{◌≡◌, ◌≢◌, ℕ, List, [], ◌∷◌, map, true, Option, Some, refl, sym, ap, ◌∙◌, subst, inl, inr}
use Rattle.std.specs.Prelude.{filter, flat_map, insert, remove, slice_get}
use Rattle.std.proofs.lemmas.Bool.{cases_eq}
use Rattle.tree_edits.specs.Edits.{has}
use Rattle.assess_records.specs.Counts.{counts_of}
use Rattle.assess_records.specs.Numbered.{Head}
use Rattle.compiled_schema.specs.Usable.{set_of}
use Rattle.compiled_schema.specs.declared.compiled.Compiled.{Compiled}
use Rattle.model_terms.specs.Symbols.{child_symbols}
use Rattle.doc_nodes.specs.Nodes.{Node, Nodes, node, IsNode, Has, IsSound, is_element_at, children_by, element_children}
use Rattle.doc_changes.specs.Held.{parent_at}
use Rattle.doc_changes.specs.Readers.{name_by, name_at, chars_at, own_chars}
use Rattle.child_lists.specs.from_kept_records.Slots.{IsMade, record_at}
use Rattle.child_lists.specs.from_kept_records.Fit.{models_of, head_at, IsFit}
use Rattle.child_lists.proofs.from_kept_records.Nodes.{by-node}
use Rattle.child_lists.specs.from_kept_state.Kept.{IsBeside, children_at}
use Rattle.child_lists.specs.from_kept_state.KeptState.{KeptState}
use Rattle.child_lists.proofs.from_kept_judging.Anew.{fit-judged}
use Rattle.child_lists.proofs.from_kept_forgetting.Placed.{children-differ, parent-has, one-place}
use Rattle.kept_children.specs.Edited.{IsPlanted}
use Rattle.child_lists.specs.Family.{AreCounted, IsListedBy, AreGivenBut, IsMidway, marked_places, model_of, symbols_of}
use Rattle.child_lists.specs.Places.{IsPlaceOf}
use Rattle.child_lists.specs.declared.place.ChildPlace.{ChildPlace}
use Rattle.child_lists.proofs.Edits.{inserted-at, among-removed, passes, filter-remove, filter-same, flat-has, flat-remove}
use Rattle.kept_children.proofs.Still.{IsStill, says-same, still-node, still-held, SeesNodes, ShowsSame, fit-nodes, sees-still, shows-still, head-still, judged-nodes, element-silent}
use Rattle.child_lists.proofs.Terms.{symbols-remove}
use Rattle.kept_children.proofs.Starting.{all-made, given-moved}
use Rattle.child_lists.proofs.from_kept_records.Frames.{map-same}
use Rattle.elem_governing.specs.Governing.{govern_root}

module _ (c : Compiled) (ns : Nodes) (k : KeptState) (spot : ChildPlace) (place : IsPlaceOf ns spot) (beside : IsBeside c ns k) (h : IsPlanted c ns k spot) where
  abbrev p : ℕ
  p = spot.parent

  abbrev Stays : ℕ → Type 0
  Stays n = (it : Node) × IsNode h.old n it

  was-sound : IsSound h.old
  was-sound = h.right.beside.over.1.stands.links

  now-sound : IsSound ns
  now-sound = beside.over.1.stands.links

  parent-node : (it : Node) × IsNode h.old p it
  parent-node = by-node h.old p (node h.old p) refl h.parent

  parent-now : IsNode ns p (record parent-node.0 { children = insert parent-node.0.children h.place spot.node })
  parent-now = h.comes.parent parent-node.0 parent-node.1

  same-node : (n : ℕ) → n ≢ p → Stays n → node ns n ≡ node h.old n
  same-node n other (it, is) = h.comes.others n it is other

  still : (n : ℕ) → Stays n → IsStill h.old ns n
  still n stays = elim (cases_eq n p) [
    | inl e ↦ subst (IsStill h.old ns) (sym e) (still-held h.old ns p parent-node.0 (record parent-node.0 { children = insert parent-node.0.children h.place spot.node }) parent-node.1 parent-now refl
        (says-same parent-node.0.content))
    | inr other ↦ still-node h.old ns n (same-node n other stays)
  ]

  name-still : (n : ℕ) → Stays n → name_at ns n ≡ name_at h.old n
  name-still n stays = elim (cases_eq n p) [
    | inl e ↦ ap (name_at ns) e ∙ ap name_by parent-now ∙ sym (ap name_by parent-node.1) ∙ ap (name_at h.old) (sym e)
    | inr other ↦ ap name_by (same-node n other stays)
  ]

  up : (n q : ℕ) → Stays n → parent_at h.old n ≡ Some q → Stays q
  up n q stays e = let above = parent-has h.old was-sound n q e in (above.0, above.1)

  below : (n : ℕ) (it : Node) → IsNode h.old n it → (x : ℕ) → Has x (children_by (node h.old n)) → Stays x
  below n it is x has =
      let d = was-sound.down n x it is (subst (λ (o : Option Node). Has x (children_by o)) is has) in
      (d.child, d.is)

  sees : (n : ℕ) → n ≢ p → Stays n → SeesNodes (set_of c) h.old ns n
  sees n other stays =
      sees-still h.old ns was-sound now-sound Stays still up (set_of c) n stays (ap children_by (same-node n other stays)) (λ x has. let b = below n stays.0 stays.1 x has in (b, name-still x b))

  shows : (n : ℕ) → Stays n → own_chars ns n ≡ own_chars h.old n → ShowsSame (set_of c) h.old ns n
  shows n stays chars = shows-still h.old ns was-sound now-sound Stays still up (set_of c) n stays (name-still n stays) chars

  fit-others : (n : ℕ) → IsMade k.records.slots n → n ≢ p → IsFit (set_of c) (models_of c) ns k.records.slots k.lists k.root_ids n
  fit-others n made other =
      let stays = by-node h.old n (node h.old n) refl (h.right.beside.over.1.only n made) in
      let s = sees n other stays in
      fit-nodes (set_of c) h.old ns n s (models_of c) k.records.slots k.lists k.root_ids (shows n stays s.chars) (h.right.fit n made tt)

  made-parent : IsMade k.records.slots p
  made-parent = all-made c h.old k h.right p h.parent

  fit-parent : IsFit (set_of c) (models_of c) h.old k.records.slots k.lists k.root_ids p
  fit-parent = h.right.fit p made-parent tt

  -- ---- the child elements of the parent

  abbrev was-children : List ℕ
  was-children = parent-node.0.children

  abbrev now-children : List ℕ
  now-children = insert was-children h.place spot.node

  children-now : children_by (node ns p) ≡ now-children
  children-now = ap children_by parent-now

  children-was : children_by (node h.old p) ≡ was-children
  children-was = ap children_by parent-node.1

  place-now : (j : ℕ) × (slice_get now-children j ≡ Some spot.node) × (remove now-children j ≡ was-children)
  place-now = let i = inserted-at was-children h.place spot.node in (i.place, i.there, i.others)

  new-element : is_element_at ns spot.node ≡ true
  new-element = passes (is_element_at ns) (children_by (node ns p)) spot.place spot.node place.node_is

  stay-child : (x : ℕ) → Has x was-children → Stays x
  stay-child x has = below p parent-node.0 parent-node.1 x (subst (Has x) (sym children-was) has)

  parent-chars : own_chars ns p ≡ own_chars h.old p
  parent-chars =
      ap (flat_map (chars_at ns)) children-now
      ∙ sym (flat-remove (chars_at ns) now-children place-now.0 spot.node place-now.1 (element-silent ns spot.node new-element))
      ∙ ap (flat_map (chars_at ns)) place-now.2
      ∙ flat-has (chars_at ns) (chars_at h.old) was-children (λ x has. (still x (stay-child x has)).chars)
      ∙ ap (flat_map (chars_at h.old)) (sym children-was)

  pub children-are : element_children h.old p ≡ remove (element_children ns p) spot.place
  children-are =
      let q = is_element_at ns in
      ap (filter (is_element_at h.old)) children-was
      ∙ sym (filter-same q (is_element_at h.old) was-children (λ x has. (still x (stay-child x has)).element))
      ∙ ap (filter q) (sym place-now.2)
      ∙ filter-remove q now-children place-now.0 spot.place spot.node (now-sound.once p (record parent-node.0 { children = now-children }) parent-now) new-element place-now.1
      (ap (λ xs. slice_get (filter q xs) spot.place) (sym children-now) ∙ place.node_is)
      ∙ ap (λ xs. remove (filter q xs) spot.place) (sym children-now)

  child-stays : (j x : ℕ) → slice_get (element_children h.old p) j ≡ Some x → Stays x
  child-stays j x e = let made = (fit-parent.gathered.given j x e).made in by-node h.old x (node h.old x) refl (h.right.beside.over.1.only x made)

  root-head : head_at (set_of c) ns 1 ≡ head_at (set_of c) h.old 1
  root-head =
      let stays = by-node h.old 1 (node h.old 1) refl (h.right.beside.over.1.only 1 h.right.top.made) in
      head-still h.old ns was-sound now-sound Stays still up (set_of c) 1 stays (name-still 1 stays)

  pub planted-midway : IsMidway c ns k p (children_at k.records.slots p) []
  planted-midway = record {
    made = made-parent;
    beside = beside;
    top = record { made = h.right.top.made; pair_is = h.right.top.pair_is ∙ ap (λ (hd : Head). govern_root c.names c.parts hd.name hd.xsi hd.scope) (sym root-head) };
    fit = λ n made lacks. fit-others n made (λ e. lacks.0 (sym e));
    apart = tt;
    gathered = λ n has. absurd has;
    judged = judged-nodes (set_of c) h.old ns k p (children_at k.records.slots p) (shows p parent-node parent-chars) (fit-judged c h.old k p fit-parent);
  }

  names-are : map (name_at h.old) (element_children h.old p) ≡ map (name_at ns) (remove (element_children ns p) spot.place)
  names-are =
      map-same (name_at h.old) (name_at ns) (element_children h.old p) (λ j x e. sym (name-still x (child-stays j x e)))
      ∙ ap (map (name_at ns)) children-are

  pub planted-listed : IsListedBy c k p (remove (symbols_of c ns k p) spot.place)
  planted-listed =
      subst (IsListedBy c k p)
      (ap (child_symbols c.names (model_of c k p)) names-are ∙ symbols-remove c.names (model_of c k p) (name_at ns) (element_children ns p) spot.place)
      fit-parent.gathered.list_is

  pub planted-counted : AreCounted k p (remove (element_children ns p) spot.place)
  planted-counted = record {
    made = λ j x e. (fit-parent.gathered.given j x (ap (λ xs. slice_get xs j) children-are ∙ e)).made;
    counts_are = fit-parent.gathered.counts_are ∙ ap (λ xs. counts_of (map (record_at k.records.slots) xs)) children-are;
  }

  pub planted-given : AreGivenBut c ns k p (spot.place ∷ marked_places (model_of c k p) (symbols_of c ns k p))
  planted-given i x e lacks =
      let other : x ≢ spot.node = λ q. lacks.0 (one-place (element_children ns p) spot.place i spot.node (children-differ ns now-sound p) place.node_is (e ∙ ap Some q)) in
      let among = among-removed (element_children ns p) spot.place i spot.node x place.node_is e other in
      let there : slice_get (element_children h.old p) among.place ≡ Some x = ap (λ xs. slice_get xs among.place) children-are ∙ among.there in
      let stays = child-stays among.place x there in
      given-moved c h.old ns k p i among.place x e there (head-still h.old ns was-sound now-sound Stays still up (set_of c) x stays (name-still x stays)) lacks.1
      (fit-parent.gathered.given among.place x there)
