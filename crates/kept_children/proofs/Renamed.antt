-- What holds of an element as soon as a child element has another name.
use Rattle.std.proofs.Common.{◌≡◌, ◌≢◌, ℕ, [], ◌∷◌, map, true, Option, Some, refl, sym, ap, ◌∙◌, subst, inl, inr, None, set}
use Rattle.std.specs.Prelude.{filter, flat_map, slice_get, unwrap_or}
use Rattle.std.proofs.lemmas.Bool.{cases_eq}
use Rattle.tree_edits.specs.Edits.{has}
use Rattle.assess_records.specs.Counts.{counts_of}
use Rattle.assess_records.specs.Numbered.{Head}
use Rattle.compiled_schema.specs.Usable.{set_of}
use Rattle.compiled_schema.specs.declared.compiled.Compiled.{Compiled}
use Rattle.model_terms.specs.Symbols.{child_symbols}
use Rattle.doc_nodes.specs.Nodes.{Node, Nodes, node, IsNode, Has, IsSound, is_element_at, children_by, element_children, is_element, is_element_by}
use Rattle.doc_changes.specs.Held.{parent_at, chars_in, attributes_in, bindings_in}
use Rattle.doc_changes.specs.Readers.{name_by, name_at, chars_at, own_chars}
use Rattle.child_lists.specs.from_kept_records.Slots.{IsMade, record_at}
use Rattle.child_lists.specs.from_kept_records.Fit.{models_of, head_at, IsFit, IsGathered}
use Rattle.child_lists.proofs.from_kept_records.Nodes.{by-node}
use Rattle.child_lists.specs.from_kept_state.Kept.{IsBeside, children_at}
use Rattle.child_lists.specs.from_kept_state.KeptState.{KeptState}
use Rattle.child_lists.proofs.from_kept_judging.Anew.{fit-judged, not-own-parent}
use Rattle.child_lists.proofs.from_kept_forgetting.Placed.{children-differ, parent-has, parent-element, one-place}
use Rattle.kept_children.specs.Edited.{IsRenamed}
use Rattle.child_lists.specs.Family.{AreCounted, IsListedBy, AreGivenBut, IsMidway, marked_places, model_of, symbols_of}
use Rattle.child_lists.specs.Places.{IsPlaceOf}
use Rattle.child_lists.specs.declared.place.ChildPlace.{ChildPlace}
use Rattle.child_lists.proofs.Edits.{filter-same, flat-has}
use Rattle.kept_children.proofs.Still.{IsStill, still-node, still-held, SeesNodes, ShowsSame, fit-nodes, sees-still, shows-still, head-still, judged-nodes, SaysSame, gathered-nodes}
use Rattle.child_lists.proofs.Terms.{symbols-set, symbol_by}
use Rattle.kept_children.proofs.Starting.{all-made, given-moved}
use Rattle.elem_governing.specs.Governing.{govern_root}
use Rattle.std.proofs.lemmas.Option.{none-some, same_Some}
use Rattle.std.specs.Option.{option_and_then}
use Rattle.doc_nodes.specs.declared.content.Content.{Content}
use Rattle.doc_nodes.specs.declared.content.Content.TheVariants as contents

module _ (c : Compiled) (ns : Nodes) (k : KeptState) (spot : ChildPlace) (place : IsPlaceOf ns spot) (beside : IsBeside c ns k) (h : IsRenamed c ns k spot) where
  abbrev p : ℕ
  p = spot.parent

  abbrev Stays : ℕ → Type 0
  Stays n = (it : Node) × IsNode h.old n it

  was-sound : IsSound h.old
  was-sound = h.right.beside.over.1.stands.links

  now-sound : IsSound ns
  now-sound = beside.over.1.stands.links

  abbrev content : Content
  content = contents.Element (record h.element { name = h.name })

  node-now : IsNode ns spot.node (record h.node { content = content })
  node-now = h.holds.here h.node h.is

  says : SaysSame h.node.content content
  says =
      let e = h.content in
      record {
        element = sym (ap is_element e);
        bindings = sym (ap bindings_in e);
        attributes = sym (ap attributes_in e);
        chars = sym (ap (λ x. unwrap_or (chars_in x) []) e);
      }

  still : (n : ℕ) → Stays n → IsStill h.old ns n
  still n stays = elim (cases_eq n spot.node) [
    | inl e ↦ subst (IsStill h.old ns) (sym e) (still-held h.old ns spot.node h.node (record h.node { content = content }) h.is node-now refl says)
    | inr other ↦ still-node h.old ns n (h.holds.others n other)
  ]

  name-still : (n : ℕ) → n ≢ spot.node → name_at ns n ≡ name_at h.old n
  name-still n other = ap name_by (h.holds.others n other)

  children-same : (n : ℕ) → children_by (node ns n) ≡ children_by (node h.old n)
  children-same n = elim (cases_eq n spot.node) [
    | inl e ↦ ap (λ x. children_by (node ns x)) e ∙ ap children_by node-now ∙ sym (ap children_by h.is) ∙ ap (λ x. children_by (node h.old x)) (sym e)
    | inr other ↦ ap children_by (h.holds.others n other)
  ]

  up : (n q : ℕ) → Stays n → parent_at h.old n ≡ Some q → Stays q
  up n q stays e = let above = parent-has h.old was-sound n q e in (above.0, above.1)

  parent-was : parent_at h.old spot.node ≡ Some p
  parent-was = sym (still spot.node (h.node, h.is)).parent ∙ place.parent_is

  -- its parent is that of the one that has another name, where that is among its children
  below : (n : ℕ) → Stays n → n ≢ p → (x : ℕ) → Has x (children_by (node h.old n)) → Stays x × (name_at ns x ≡ name_at h.old x)
  below n stays other x has =
      let d = was-sound.down n x stays.0 stays.1 (subst (λ (o : Option Node). Has x (children_by o)) stays.1 has) in
      let parent : parent_at h.old x ≡ Some n = ap (option_and_then (λ (it : Node). it.parent)) d.is ∙ d.parent in
      ((d.child, d.is), name-still x (λ e. other (same_Some n p (sym parent ∙ ap (parent_at h.old) e ∙ parent-was))))

  not-own : (n : ℕ) → Stays n → parent_at h.old n ≢ Some n
  not-own n stays e = not-own-parent h.old was-sound n stays.0 stays.1 e

  parent-other : p ≢ spot.node
  parent-other e = not-own spot.node (h.node, h.is) (parent-was ∙ ap Some e)

  sees : (n : ℕ) → n ≢ p → Stays n → SeesNodes (set_of c) h.old ns n
  sees n other stays = sees-still h.old ns was-sound now-sound Stays still up (set_of c) n stays (children-same n) (below n stays other)

  shows : (n : ℕ) → n ≢ spot.node → Stays n → own_chars ns n ≡ own_chars h.old n → ShowsSame (set_of c) h.old ns n
  shows n other stays chars = shows-still h.old ns was-sound now-sound Stays still up (set_of c) n stays (name-still n other) chars

  made-stays : (n : ℕ) → IsMade k.records.slots n → Stays n
  made-stays n made = by-node h.old n (node h.old n) refl (h.right.beside.over.1.only n made)

  fit-others : (n : ℕ) → IsMade k.records.slots n → n ≢ p → n ≢ spot.node → IsFit (set_of c) (models_of c) ns k.records.slots k.lists k.root_ids n
  fit-others n made other off =
      let stays = made-stays n made in
      let s = sees n other stays in
      fit-nodes (set_of c) h.old ns n s (models_of c) k.records.slots k.lists k.root_ids (shows n off stays s.chars) (h.right.fit n made tt)

  node-element : is_element_at h.old spot.node ≡ true
  node-element = ap is_element_by h.is ∙ ap is_element h.content

  made-node : IsMade k.records.slots spot.node
  made-node = all-made c h.old k h.right spot.node node-element

  made-parent : IsMade k.records.slots p
  made-parent = all-made c h.old k h.right p (parent-element c.names h.old h.right.beside.over.0 h.right.beside.over.1.stands spot.node p parent-was)

  fit-parent : IsFit (set_of c) (models_of c) h.old k.records.slots k.lists k.root_ids p
  fit-parent = h.right.fit p made-parent tt

  gathered-node : IsGathered (set_of c) (models_of c) ns k.records.slots k.lists spot.node
  gathered-node =
      gathered-nodes (set_of c) h.old ns spot.node (sees spot.node (λ e. parent-other (sym e)) (h.node, h.is)) (models_of c) k.records.slots k.lists (h.right.fit spot.node made-node tt).gathered

  -- ---- the parent

  stays-parent : Stays p
  stays-parent = made-stays p made-parent

  stay-child : (x : ℕ) → Has x (children_by (node h.old p)) → Stays x
  stay-child x has =
      let d = was-sound.down p x stays-parent.0 stays-parent.1 (subst (λ (o : Option Node). Has x (children_by o)) stays-parent.1 has) in
      (d.child, d.is)

  parent-chars : own_chars ns p ≡ own_chars h.old p
  parent-chars = ap (flat_map (chars_at ns)) (children-same p) ∙ flat-has (chars_at ns) (chars_at h.old) (children_by (node h.old p)) (λ x has. (still x (stay-child x has)).chars)

  pub renamed-children : element_children ns p ≡ element_children h.old p
  renamed-children =
      ap (filter (is_element_at ns)) (children-same p) ∙ filter-same (is_element_at ns) (is_element_at h.old) (children_by (node h.old p)) (λ x has. (still x (stay-child x has)).element)

  root-stays : Stays 1
  root-stays = made-stays 1 h.right.top.made

  root-other : 1 ≢ spot.node
  root-other e =
      let stands = h.right.beside.over.1.stands in
      let up-none : parent_at h.old 1 ≡ None = ap (option_and_then (λ (it : Node). it.parent)) root-stays.1 ∙ (stands.root root-stays.0 root-stays.1).0 in
      none-some p (sym up-none ∙ ap (parent_at h.old) e ∙ parent-was)

  root-head : head_at (set_of c) ns 1 ≡ head_at (set_of c) h.old 1
  root-head = head-still h.old ns was-sound now-sound Stays still up (set_of c) 1 root-stays (name-still 1 root-other)

  pub renamed-midway : IsMidway c ns k p (children_at k.records.slots p) (spot.node ∷ [])
  renamed-midway = record {
    made = made-parent;
    beside = beside;
    top = record { made = h.right.top.made; pair_is = h.right.top.pair_is ∙ ap (λ (hd : Head). govern_root c.names c.parts hd.name hd.xsi hd.scope) (sym root-head) };
    fit = λ n made lacks. fit-others n made (λ e. lacks.0 (sym e)) (λ e. lacks.1.0 (sym e));
    apart = ((λ e. parent-other (sym e)), tt);
    gathered = λ n has. elim has [ inl e ↦ subst (IsGathered (set_of c) (models_of c) ns k.records.slots k.lists) e gathered-node | inr none ↦ absurd none ];
    judged = judged-nodes (set_of c) h.old ns k p (children_at k.records.slots p) (shows p parent-other stays-parent parent-chars) (fit-judged c h.old k p fit-parent);
  }

  -- ---- its child elements

  -- the list has the symbol of the name that was
  pub renamed-listed : (symbol : ℕ) × IsListedBy c k p (set (symbols_of c ns k p) spot.place symbol)
  renamed-listed =
      let a = model_of c k p in
      let xs = element_children ns p in
      let same = symbols-set c.names a (name_at h.old) (name_at ns) xs spot.place spot.node (children-differ ns now-sound p) place.node_is (λ y other. sym (name-still y other)) in (
        symbol_by c.names a (name_at h.old spot.node),
        subst (IsListedBy c k p) (ap (λ ys. child_symbols c.names a (map (name_at h.old) ys)) (sym renamed-children) ∙ same) fit-parent.gathered.list_is,
      )

  pub renamed-counted : AreCounted k p (element_children ns p)
  renamed-counted = record {
    made = λ i x e. (fit-parent.gathered.given i x (ap (λ xs. slice_get xs i) (sym renamed-children) ∙ e)).made;
    counts_are = fit-parent.gathered.counts_are ∙ ap (λ xs. counts_of (map (record_at k.records.slots) xs)) (sym renamed-children);
  }

  pub renamed-given : AreGivenBut c ns k p (spot.place ∷ marked_places (model_of c k p) (symbols_of c ns k p))
  renamed-given i x e lacks =
      let other : x ≢ spot.node = λ q. lacks.0 (one-place (element_children ns p) spot.place i spot.node (children-differ ns now-sound p) place.node_is (e ∙ ap Some q)) in
      let there : slice_get (element_children h.old p) i ≡ Some x = ap (λ xs. slice_get xs i) (sym renamed-children) ∙ e in
      let g = fit-parent.gathered.given i x there in
      given-moved c h.old ns k p i i x e there (head-still h.old ns was-sound now-sound Stays still up (set_of c) x (made-stays x g.made) (name-still x other)) lacks.1 g
