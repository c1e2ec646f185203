-- What the writes of a removal leave.
use Rattle.std.proofs.Common.{◌≡◌, ◌≢◌, ℕ, ◌+◌, ◌-◌, ◌<◌, List, [], ◌∷◌, length, remove, sym, ap, ◌∙◌, subst, Option, Some, None, refl, arith}
use Rattle.std.specs.Option.{option_map}
use Rattle.std.proofs.lemmas.Option.{same_Some}
use Rattle.child_trees.specs.Lists.{Entry, IsAt, Updates}
use Rattle.doc_nodes.specs.declared.firsts.First.{First}
use Rattle.doc_nodes.specs.declared.slots.Slot.{Slot}
use Rattle.doc_nodes.specs.declared.slots.Hook.{Hook}
use Rattle.doc_nodes.specs.Nodes.{Node, IsNode}
use Rattle.doc_nodes.specs.Slots.{slot, Writes}
use Rattle.doc_nodes.specs.Linked.{Orders, list_or, entries, numbers, node_in, nodes_of, IsLinked, Takes}
use Rattle.doc_nodes.proofs.Placed.{IsPlaced, has-place, live_list, item-at}
use Rattle.doc_nodes.proofs.Seen.{shown}

module _ (ss : List (Option Slot)) (v : Orders) (p place c : ℕ) (old : Slot) (i : IsLinked ss v) (u : IsPlaced ss v p place c) (was : slot ss c ≡ Some old) where
  pub taken_hook : old.hook ≡ Some (record { parent = p; item = u.entry.item })
  taken_hook = ap (λ (y : Slot). y.hook) (same_Some old u.child (sym was ∙ u.child_is)) ∙ u.hook

  -- a node without children is not its own parent
  pub taken_apart : entries v old.list ≡ [] → p ≢ c
  taken_apart leaf k =
      let same : u.parent ≡ old = same_Some u.parent old (sym u.parent_is ∙ ap (slot ss) k ∙ was) in
      let empty : length (entries v u.parent.list) ≡ 0 = ap (λ (y : Slot). length (entries v y.list)) same ∙ ap length leaf in
      absurd (omega (arith, u.at.within, empty))

  pub counted_place : place < u.parent.count
  counted_place = let o = i.owner p u.parent u.parent_is in subst (λ n. place < n) (ap (λ l. length (list_or l)) o.is ∙ sym o.count) u.at.within

-- the place of a node that hangs
pub hung_place : (ss : List (Option Slot)) (v : Orders) (c : ℕ) (s : Slot) (h : Hook) (i : IsLinked ss v) → slot ss c ≡ Some s → s.hook ≡ Some h → (place : ℕ) × IsPlaced ss v h.parent place c
hung_place ss v c s h i there is =
    let u = i.up c s h there is in
    let z = has-place u.entry (entries v u.parent.list) u.has in (
      z.0,
      record {
        parent = u.parent;
        parent_is = u.is;
        child = s;
        child_is = there;
        entry = u.entry;
        at = z.1;
        number = u.child;
        hook = is ∙ ap (λ j. Some (record { parent = h.parent; item = j })) (sym u.item);
        list = live_list ss v h.parent u.parent i u.is;
      },
    )

-- the item of a node lies at its place, also once another list is gone
pub item_stays : (ss : List (Option Slot)) (v w : Orders) (p place c : ℕ) (old : Slot) (h : Hook) (i : IsLinked ss v) (u : IsPlaced ss v p place c)
    → slot ss c ≡ Some old → old.hook ≡ Some h → entries v old.list ≡ [] → Updates v w old.list None
    → IsAt w h.item u.parent.list place (entries v u.parent.list)
item_stays ss v w p place c old h i u was is leaf dropped =
    let not_c = taken_apart ss v p place c old i u was leaf in
    let apart : u.parent.list ≢ old.list = λ k. not_c (i.apart p c u.parent old u.parent_is was k) in
    let hooks = same_Some h (record { parent = p; item = u.entry.item }) (sym is ∙ taken_hook ss v p place c old i u was) in
    subst (λ j. IsAt w j u.parent.list place (entries v u.parent.list)) (sym (ap (λ (y : Hook). y.item) hooks))
    (item-at w u.parent.list place (entries v u.parent.list) u.entry (dropped.others u.parent.list apart ∙ u.list) u.at)

-- a node without children has no entries
pub leaf_of : (ss : List (Option Slot)) (v : Orders) (n : ℕ) (it : Node) (s : Slot) → IsNode (nodes_of ss v) n it → it.children ≡ [] → slot ss n ≡ Some s → entries v s.list ≡ []
leaf_of ss v n it s h none there =
    no_entries (entries v s.list) (ap (λ (y : Node). y.children) (same_Some (node_in v s) it (sym (shown ss v n s there) ∙ h)) ∙ none)
  where
    no_entries : (es : List (Entry First)) → numbers es ≡ [] → es ≡ []
    no_entries [] e = refl
    no_entries (x ∷ xs) e = absurd (omega (arith, ap length e))

-- a node with a parent has a hook
pub has_hook : (ss : List (Option Slot)) (v : Orders) (n : ℕ) (it : Node) (s : Slot) → IsNode (nodes_of ss v) n it → it.parent ≢ None → slot ss n ≡ Some s → s.hook ≢ None
has_hook ss v n it s h some there none =
    some (ap (λ (y : Node). y.parent) (same_Some it (node_in v s) (sym h ∙ shown ss v n s there)) ∙ ap (option_map (λ (k : Hook). k.parent)) none)

-- what the writes of a removal leave
pub takes : (ss ps ts : List (Option Slot)) (v w x : Orders) (p place c : ℕ) (old : Slot) (h : Hook) (i : IsLinked ss v) (u : IsPlaced ss v p place c)
    → slot ss c ≡ Some old → old.hook ≡ Some h → entries v old.list ≡ []
    → Writes ss ps c None → Updates v w old.list None
    → ((q k : ℕ) (xs : List (Entry First)) → IsAt w h.item q k xs → Updates w x q (Some (remove xs k)))
    → ((y : Slot) → slot ps h.parent ≡ Some y → Writes ps ts h.parent (Some (record y { count = y.count - 1 })))
    → Takes ss v ts x p u.parent place c old u.entry
takes ss ps ts v w x p place c old h i u was is leaf cut dropped gone counted =
    let not_c : p ≢ c = taken_apart ss v p place c old i u was leaf in
    let hooks = same_Some h (record { parent = p; item = u.entry.item }) (sym is ∙ taken_hook ss v p place c old i u was) in
    let counted_p = subst (λ k. (y : Slot) → slot ps k ≡ Some y → Writes ps ts k (Some (record y { count = y.count - 1 }))) (ap (λ (y : Hook). y.parent) hooks) counted in
    let write = counted_p u.parent (cut.others p not_c ∙ u.parent_is) in
    let edit = gone u.parent.list place (entries v u.parent.list) (item_stays ss v w p place c old h i u was is leaf dropped) in
    let some = counted_place ss v p place c old i u was in
    let less : u.parent.count - 1 + 1 ≡ u.parent.count = omega (arith, some) in
    record {
      size = write.size ∙ cut.size;
      parent_was = u.parent_is;
      parent_is = (record u.parent { count = u.parent.count - 1 }, write.changed, refl, less);
      was = was;
      gone = write.others c (λ k. not_c (sym k)) ∙ cut.changed;
      others = λ m a b. write.others m a ∙ cut.others m b;
      leaf = leaf;
      child = u.number;
      hook = taken_hook ss v p place c old i u was;
      within = u.at.within;
      at = u.at.at;
      edited = edit.changed;
      rest = λ q a b. edit.others q a ∙ dropped.others q b;
    }
