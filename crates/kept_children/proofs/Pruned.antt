-- What holds of an element as soon as a child element is gone.
use Rattle.std.proofs.Common.{◌≡◌, ◌≢◌, ℕ, zero, suc, ◌<◌, List, [], length, map, true, Option, None, Some, refl, sym, ap, ◌∙◌, subst, inl, inr, arith, Bool, false}
use Rattle.std.specs.Prelude.{filter, flat_map, remove, slice_get, unwrap_or}
use Rattle.std.specs.Option.{option_and_then}
use Rattle.std.proofs.lemmas.Bool.{cases_eq}
use Rattle.tree_edits.specs.Edits.{has}
use Rattle.assess_records.specs.Counts.{counts_of, with_child}
use Rattle.assess_records.specs.Numbered.{Head}
use Rattle.compiled_schema.specs.Usable.{set_of}
use Rattle.compiled_schema.specs.declared.compiled.Compiled.{Compiled}
use Rattle.model_terms.specs.Symbols.{child_symbols}
use Rattle.doc_nodes.specs.Nodes.{Node, Nodes, node, IsNode, Has, IsSound, is_element_at, children_by, element_children}
use Rattle.doc_changes.specs.Held.{parent_at}
use Rattle.doc_changes.specs.Readers.{name_by, name_at, chars_at, own_chars}
use Rattle.child_lists.specs.from_kept_records.Slots.{IsMade, record_at, blank, kept_at}
use Rattle.child_lists.specs.from_kept_records.Fit.{models_of, head_at, IsFit, IsGiven, IsListed}
use Rattle.child_lists.proofs.from_kept_records.Nodes.{by-node, root-there, there as there-node}
use Rattle.child_lists.specs.from_kept_state.Kept.{IsBeside, children_at, children_of}
use Rattle.child_lists.specs.from_kept_state.KeptState.{KeptState}
use Rattle.child_lists.proofs.from_kept_judging.Anew.{fit-judged}
use Rattle.child_lists.proofs.from_kept_forgetting.Placed.{parent-has, parent-element}
use Rattle.child_lists.specs.from_kept_forgetting.Below.{upwards, IsWithin}
use Rattle.kept_children.specs.Edited.{IsPruned}
use Rattle.child_lists.specs.Family.{IsListedBy, AreGivenBut, IsMidway, marked_places, model_of, symbols_of}
use Rattle.child_lists.specs.declared.place.ChildPlace.{ChildPlace}
use Rattle.child_lists.proofs.Edits.{passes, filter-remove, filter-same, flat-has, flat-remove, has-filter, get-within, IsAmong, among-more}
use Rattle.kept_children.proofs.Still.{IsStill, says-same, still-node, still-held, SeesNodes, ShowsSame, fit-nodes, sees-still, shows-still, head-still, judged-nodes, element-silent}
use Rattle.child_lists.proofs.Terms.{symbols-remove, many-symbols}
use Rattle.kept_children.proofs.Starting.{all-made, given-moved}
use Rattle.child_lists.proofs.from_kept_records.Frames.{map-same, fit-lists, fit-apart}
use Rattle.elem_governing.specs.Governing.{govern_root}
use Rattle.std.proofs.lemmas.Option.{none-some, same_Some}
use Rattle.child_lists.specs.from_kept_judging.Judged.{symbols_by, pair_by, IsJudgedBy}
use Rattle.xs_codes.specs.declared.fault.Found.{Found}
use Rattle.assess_records.specs.declared.counts.ChildCounts.{ChildCounts}
use Rattle.model_lists.specs.Lists.{KeepLists}
use Rattle.model_lists.specs.declared.handle.ModelList.{ModelList}
use Rattle.kept_slots.specs.Slots.{at}
use Rattle.child_lists.specs.from_kept_records.KeptElement.{KeptElement}
use Rattle.child_lists.proofs.from_kept_records.Counting.{counts-at}
use Rattle.child_lists.proofs.from_kept_records.Lists.{listed-kept}
use Rattle.kept_above.proofs.Climbing.{judged-kept}
use Rattle.child_lists.specs.from_kept_state.Outcome.{Outcome}

module _ (c : Compiled) (ns : Nodes) (k : KeptState) (spot : ChildPlace) (outcome : Outcome) (beside : IsBeside c ns k) (h : IsPruned c ns k spot outcome) where
  abbrev p : ℕ
  p = spot.parent

  abbrev Stays : ℕ → Type 0
  Stays n = (it : Node) × IsNode ns n it

  was-sound : IsSound h.old
  was-sound = h.right.beside.over.1.stands.links

  now-sound : IsSound ns
  now-sound = beside.over.1.stands.links

  was-node : Node
  was-node = h.child.0

  parent-was : IsNode h.old p h.child.0
  parent-was = h.child.1

  parent-now : IsNode ns p (record h.child.0 { children = remove h.child.0.children h.place })
  parent-now = h.prunes.parent h.child.0 h.child.1

  parent-stays : Stays p
  parent-stays = (record h.child.0 { children = remove h.child.0.children h.place }, parent-now)

  -- ---- nodes that stay

  same-node : (n : ℕ) → n ≢ p → Stays n → node ns n ≡ node h.old n
  same-node n other stays = by (has n h.below) refl
    where
      by : (b : Bool) → has n h.below ≡ b → node ns n ≡ node h.old n
      by true e = absurd (none-some stays.0 (sym (h.prunes.gone n e) ∙ stays.1))
      by false e = h.prunes.others n other (λ q. none-some stays.0 (sym h.prunes.here ∙ ap (node ns) (sym q) ∙ stays.1)) e

  still : (n : ℕ) → Stays n → IsStill h.old ns n
  still n stays = elim (cases_eq n p) [
    | inl e ↦ subst (IsStill h.old ns) (sym e) (still-held h.old ns p h.child.0 (record h.child.0 { children = remove h.child.0.children h.place }) parent-was parent-now refl (says-same h.child.0.content))
    | inr other ↦ still-node h.old ns n (same-node n other stays)
  ]

  name-still : (n : ℕ) → Stays n → name_at ns n ≡ name_at h.old n
  name-still n stays = elim (cases_eq n p) [
    | inl e ↦ ap (name_at ns) e ∙ ap name_by parent-now ∙ sym (ap name_by parent-was) ∙ ap (name_at h.old) (sym e)
    | inr other ↦ ap name_by (same-node n other stays)
  ]

  up : (n q : ℕ) → Stays n → parent_at h.old n ≡ Some q → Stays q
  up n q stays e = let above = parent-has ns now-sound n q ((still n stays).parent ∙ e) in (above.0, above.1)

  gone-not : ¬ Stays spot.node
  gone-not stays = none-some stays.0 (sym h.prunes.here ∙ stays.1)

  out-by : (levels n : ℕ) → Stays n → ((m : ℕ) → Stays m → upwards h.old levels m ≡ Some spot.node → ⊥) →
      (o : Option ℕ) → parent_at h.old n ≡ o → option_and_then (upwards h.old levels) o ≡ Some spot.node → ⊥
  out-by levels n stays on None q f = none-some spot.node f
  out-by levels n stays on (Some m) q f = on m (up n m stays q) f

  out-from : (levels n : ℕ) → Stays n → upwards h.old levels n ≡ Some spot.node → ⊥
  out-from zero n stays e = gone-not (subst Stays (same_Some n spot.node e) stays)
  out-from (suc levels) n stays e = out-by levels n stays (out-from levels) (parent_at h.old n) refl e

  -- they are not below the one that is gone
  out : (n : ℕ) → Stays n → ¬ IsWithin h.old spot.node n
  out n stays (levels, e) = out-from levels n stays e

  below : (n : ℕ) → Stays n → (x : ℕ) → Has x (children_by (node ns n)) → Stays x
  below n stays x has =
      let d = now-sound.down n x stays.0 stays.1 (subst (λ (o : Option Node). Has x (children_by o)) stays.1 has) in
      (d.child, d.is)

  sees : (n : ℕ) → n ≢ p → Stays n → SeesNodes (set_of c) h.old ns n
  sees n other stays =
      sees-still h.old ns was-sound now-sound Stays still up (set_of c) n stays (ap children_by (same-node n other stays))
      (λ x has. let b = below n stays x (subst (λ (o : Option Node). Has x (children_by o)) (sym (same-node n other stays)) has) in (b, name-still x b))

  shows : (n : ℕ) → Stays n → own_chars ns n ≡ own_chars h.old n → ShowsSame (set_of c) h.old ns n
  shows n stays chars = shows-still h.old ns was-sound now-sound Stays still up (set_of c) n stays (name-still n stays) chars

  -- ---- what is kept of them

  slot-stays : (n : ℕ) → Stays n → at k.records.slots n ≡ at h.before.records.slots n
  slot-stays n stays = h.forgets.rest.slots n (out n stays)

  kept-stays : (n : ℕ) → Stays n → kept_at k.records.slots n ≡ kept_at h.before.records.slots n
  kept-stays n stays = ap (λ o. unwrap_or o blank) (slot-stays n stays)

  made-was : (n : ℕ) → IsMade k.records.slots n → Stays n
  made-was n made = by-node ns n (node ns n) refl (beside.over.1.only n made)

  made-before : (n : ℕ) → IsMade k.records.slots n → IsMade h.before.records.slots n
  made-before n made = (made.0, sym (slot-stays n (made-was n made)) ∙ made.1)

  abbrev IsGone : ModelList → Type 0
  IsGone l = (m : ℕ) × IsWithin h.old spot.node m × ((kept_at h.before.records.slots m).list ≡ Some l)

  lists-stay : KeepLists h.before.lists k.lists IsGone
  lists-stay g a symbols there is = (h.forgets.rest.lists g a symbols (λ m within e. there (m, within, e)) is).0

  not-gone : (n : ℕ) → Stays n → (l : ModelList) → (kept_at h.before.records.slots n).list ≡ Some l → ¬ IsGone l
  not-gone n stays l e (m, within, f) = out n stays (subst (IsWithin h.old spot.node) (h.right.beside.own.apart m n l f e) within)

  child-same : (n : ℕ) → n ≢ p → (stays : Stays n) → (i x : ℕ) → slice_get (element_children h.old n) i ≡ Some x → at k.records.slots x ≡ at h.before.records.slots x
  child-same n other stays i x e =
      let has = has-filter (is_element_at h.old) (children_by (node h.old n)) i x e in
      slot-stays x (below n stays x (subst (λ (o : Option Node). Has x (children_by o)) (sym (same-node n other stays)) has))

  fit-others : (n : ℕ) → IsMade k.records.slots n → n ≢ p → IsFit (set_of c) (models_of c) ns k.records.slots k.lists k.root_ids n
  fit-others n made other =
      let s = set_of c in
      let m = models_of c in
      let stays = made-was n made in
      let seen = sees n other stays in
      let listed = fit-lists s m h.old h.before.records.slots h.before.lists k.lists h.before.root_ids IsGone lists-stay n (not-gone n stays) (h.right.fit n (made-before n made) tt) in
      let kept = fit-apart s m h.old h.before.records.slots k.records.slots k.lists h.before.root_ids n (slot-stays n stays) (child-same n other stays) listed in
      let codes = subst (λ (ids : List Found). IsFit s m h.old k.records.slots k.lists ids n) (sym h.forgets.rest.ids) kept in
      fit-nodes s h.old ns n seen m k.records.slots k.lists k.root_ids (shows n stays seen.chars) codes

  -- ---- the parent

  was-element : is_element_at h.old spot.node ≡ true
  was-element = passes (is_element_at h.old) (children_by (node h.old p)) spot.place spot.node h.placed.node_is

  parent-made-before : IsMade h.before.records.slots p
  parent-made-before = all-made c h.old h.before h.right p (parent-element c.names h.old h.right.beside.over.0 h.right.beside.over.1.stands spot.node p h.placed.parent_is)

  pub pruned-made : IsMade k.records.slots p
  pruned-made = (parent-made-before.0, slot-stays p parent-stays ∙ parent-made-before.1)

  fit-parent : IsFit (set_of c) (models_of c) h.old h.before.records.slots h.before.lists h.before.root_ids p
  fit-parent = h.right.fit p parent-made-before tt

  parent-kept : kept_at k.records.slots p ≡ kept_at h.before.records.slots p
  parent-kept = kept-stays p parent-stays

  abbrev was-children : List ℕ
  was-children = h.child.0.children

  children-now : children_by (node ns p) ≡ remove was-children h.place
  children-now = ap children_by parent-now

  children-was : children_by (node h.old p) ≡ was-children
  children-was = ap children_by parent-was

  stay-child : (x : ℕ) → Has x (remove was-children h.place) → Stays x
  stay-child x has = below p parent-stays x (subst (Has x) (sym children-now) has)

  parent-chars : own_chars ns p ≡ own_chars h.old p
  parent-chars =
      ap (flat_map (chars_at ns)) children-now
      ∙ flat-has (chars_at ns) (chars_at h.old) (remove was-children h.place) (λ x has. (still x (stay-child x has)).chars)
      ∙ flat-remove (chars_at h.old) was-children h.place spot.node h.child.2 (element-silent h.old spot.node was-element)
      ∙ ap (flat_map (chars_at h.old)) (sym children-was)

  pub pruned-children : element_children ns p ≡ remove (element_children h.old p) spot.place
  pruned-children =
      let q = is_element_at h.old in
      ap (filter (is_element_at ns)) children-now
      ∙ filter-same (is_element_at ns) q (remove was-children h.place) (λ x has. (still x (stay-child x has)).element)
      ∙ filter-remove q was-children h.place spot.place spot.node (was-sound.once p h.child.0 parent-was) was-element h.child.2
      (ap (λ xs. slice_get (filter q xs) spot.place) (sym children-was) ∙ h.placed.node_is)
      ∙ ap (λ xs. remove (filter q xs) spot.place) (sym children-was)

  child-stays : (i x : ℕ) → slice_get (element_children ns p) i ≡ Some x → Stays x
  child-stays i x e = below p parent-stays x (has-filter (is_element_at ns) (children_by (node ns p)) i x e)

  was-there : (i x : ℕ) → slice_get (element_children ns p) i ≡ Some x → IsAmong (element_children h.old p) x
  was-there i x e = among-more (element_children h.old p) spot.place i x (ap (λ xs. slice_get xs i) (sym pruned-children) ∙ e)

  root-stays : Stays 1
  root-stays = let e = root-there beside.over.0.forest beside.over.1.stands.tree.root in there-node c.names ns beside.over.0.forest beside.over.1.stands.nodes 1 e

  root-head : head_at (set_of c) ns 1 ≡ head_at (set_of c) h.old 1
  root-head = head-still h.old ns was-sound now-sound Stays still up (set_of c) 1 root-stays (name-still 1 root-stays)

  pub pruned-midway : IsMidway c ns k p (children_at k.records.slots p) []
  pruned-midway = record {
    made = pruned-made;
    beside = beside;
    top = record {
      made = (h.right.top.made.0, slot-stays 1 root-stays ∙ h.right.top.made.1);
      pair_is = ap (λ (x : KeptElement). x.found.governing) (kept-stays 1 root-stays) ∙ h.right.top.pair_is ∙ ap (λ (hd : Head). govern_root c.names c.parts hd.name hd.xsi hd.scope) (sym root-head);
    };
    fit = λ n made lacks. fit-others n made (λ e. lacks.0 (sym e));
    apart = tt;
    gathered = λ n has. absurd has;
    judged = judged-nodes (set_of c) h.old ns k p (children_at k.records.slots p) (shows p parent-stays parent-chars)
        (subst (λ (x : KeptElement). IsJudgedBy (set_of c) h.old k p (children_of x)) (sym parent-kept)
        (judged-kept (set_of c) h.old h.before k p (children_at h.before.records.slots p) (ap (λ (x : KeptElement). x.found) parent-kept) (ap (λ (x : KeptElement). x.text) parent-kept)
        (ap (λ (x : KeptElement). x.identity) parent-kept) h.forgets.rest.ids (fit-judged c h.old h.before p fit-parent)));
  }

  -- ---- its child elements

  pub was-symbols : List ℕ
  was-symbols = symbols_of c h.old k p

  pub pruned-listed : IsListedBy c k p (symbols_of c h.old k p)
  pruned-listed =
      subst (λ (x : KeptElement). IsListed k.lists (models_of c x.found.governing.of) x.list (symbols_by c h.old x.found.governing.of p)) (sym parent-kept)
      (listed-kept h.before.lists k.lists IsGone lists-stay (model_of c h.before p) (kept_at h.before.records.slots p).list (symbols_of c h.old h.before p) (not-gone p parent-stays) fit-parent.gathered.list_is)

  pub pruned-symbols : remove (symbols_of c h.old k p) spot.place ≡ symbols_of c ns k p
  pruned-symbols =
      sym (symbols-remove c.names (model_of c k p) (name_at h.old) (element_children h.old p) spot.place)
      ∙ ap (λ xs. child_symbols c.names (model_of c k p) (map (name_at h.old) xs)) (sym pruned-children)
      ∙ ap (child_symbols c.names (model_of c k p)) (map-same (name_at h.old) (name_at ns) (element_children ns p) (λ i x e. sym (name-still x (child-stays i x e))))

  pub pruned-within : spot.place < length (symbols_of c h.old k p)
  pruned-within =
      let l = get-within (element_children h.old p) spot.place spot.node h.placed.node_is in
      let n = many-symbols c.names (model_of c k p) (name_at h.old) (element_children h.old p) in
      omega (arith, l, n)

  abbrev pub others : ChildCounts
  others = counts_of (map (record_at k.records.slots) (element_children ns p))

  others-are : counts_of (map (record_at h.before.records.slots) (remove (element_children h.old p) spot.place)) ≡ others
  others-are =
      ap (λ xs. counts_of (map (record_at h.before.records.slots) xs)) (sym pruned-children)
      ∙ ap counts_of (map-same (record_at h.before.records.slots) (record_at k.records.slots) (element_children ns p) (λ i x e. ap (λ (y : KeptElement). y.found.element) (sym (kept-stays x (child-stays i x e)))))

  -- it counts the one that is gone as what that had come to
  pub pruned-counts : (kept_at k.records.slots p).counts ≡ with_child outcome.validity outcome.attempted others
  pruned-counts =
      ap (λ (x : KeptElement). x.counts) parent-kept
      ∙ fit-parent.gathered.counts_are
      ∙ counts-at (record_at h.before.records.slots) (element_children h.old p) spot.place spot.node h.placed.node_is
      ∙ ap (λ (o : Outcome). with_child o.validity o.attempted (counts_of (map (record_at h.before.records.slots) (remove (element_children h.old p) spot.place)))) (sym h.outcome_is)
      ∙ ap (with_child outcome.validity outcome.attempted) others-are

  pub pruned-each : (i x : ℕ) → slice_get (element_children ns p) i ≡ Some x → IsMade k.records.slots x
  pruned-each i x e =
      let among = was-there i x e in
      let made = (fit-parent.gathered.given among.place x among.there).made in
      (made.0, slot-stays x (child-stays i x e) ∙ made.1)

  pub pruned-given : AreGivenBut c ns k p (marked_places (model_of c k p) (symbols_of c ns k p))
  pruned-given i x e lacks =
      let among = was-there i x e in
      let stays = child-stays i x e in
      let g = fit-parent.gathered.given among.place x among.there in
      let kept : IsGiven (set_of c) (models_of c) h.old k.records.slots p among.place x = record {
        made = pruned-each i x e;
        pair_is =
            ap (λ (y : KeptElement). y.found.governing) (kept-stays x stays) ∙ g.pair_is
            ∙ ap (λ (y : KeptElement). pair_by c h.old y.found.governing p among.place x) (sym parent-kept);
      } in
      given-moved c h.old ns k p i among.place x e among.there (head-still h.old ns was-sound now-sound Stays still up (set_of c) x stays (name-still x stays)) lacks kept
