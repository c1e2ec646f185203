-- The place of a child in its parent's list.
use Rattle.std.proofs.Common.{◌≡◌, ℕ, zero, suc, ◌<◌, List, [], ◌∷◌, length, map, get_or, sym, ap, ◌∙◌, subst, Option, Some, None, refl, inl, inr, arith}
use Rattle.std.specs.Prelude.{slice_get}
use Rattle.std.proofs.lemmas.List.{get_or-map}
use Rattle.std.proofs.lemmas.Option.{same_Some, none-some}
use Rattle.child_trees.specs.Lists.{Entry, get, IsAt, HasItem}
use Rattle.doc_nodes.specs.declared.firsts.First.{First}
use Rattle.doc_nodes.specs.declared.slots.Slot.{Slot}
use Rattle.doc_nodes.specs.declared.slots.Hook.{Hook}
use Rattle.doc_nodes.specs.Nodes.{Node, IsChildAt, Has}
use Rattle.doc_nodes.specs.Slots.{slot}
use Rattle.doc_nodes.specs.Linked.{Orders, list_or, entries, number_of, nodes_of, IsLinked}
use Rattle.doc_nodes.proofs.Among.{has-at}
use Rattle.doc_nodes.proofs.Seen.{seen, number_hung}

-- the item of this place
pub record IsItemAt {A : Type 0} (xs : List A) (place : ℕ) (x : A) : Type 0 where
  pub within : place < length xs
  pub at : (d : A) → get_or xs place d ≡ x

pub has-place : {A : Type 0} (x : A) (xs : List A) → Has x xs → (place : ℕ) × IsItemAt xs place x
has-place x [] h = absurd h
has-place x (y ∷ ys) h = elim h [
  | inl e ↦ (zero, record { within = omega arith; at = λ d. e })
  | inr k ↦ let z = has-place x ys k in (suc z.0, record { within = omega (arith, z.1.within); at = z.1.at })
]

-- an item whose image is read at a place
pub read-at : {A : Type 0} (f : A → ℕ) (xs : List A) (place y : ℕ) → slice_get (map f xs) place ≡ Some y → (x : A) × (IsItemAt xs place x × (f x ≡ y))
read-at f [] place y e = absurd (none-some y e)
read-at f (x ∷ xs) zero y e = (x, (record { within = omega arith; at = λ d. refl }, same_Some (f x) y e))
read-at f (x ∷ xs) (suc place) y e =
    let z = read-at f xs place y e in
    (z.0, (record { within = omega (arith, z.1.0.within); at = z.1.0.at }, z.1.1))

pub item-at : (v : Orders) (q place : ℕ) (xs : List (Entry First)) (e : Entry First) → get v q ≡ Some xs → IsItemAt xs place e → IsAt v e.item q place xs
item-at v q place xs e is a = record {
  list = is;
  within = a.within;
  item_is = get_or-map (λ (y : Entry First). y.item) xs place e 0 a.within ∙ ap (λ (y : Entry First). y.item) (a.at e);
}

pub live_list : (ss : List (Option Slot)) (v : Orders) (n : ℕ) (s : Slot) → IsLinked ss v → slot ss n ≡ Some s → get v s.list ≡ Some (entries v s.list)
live_list ss v n s i h = let o = i.owner n s h in o.is ∙ ap Some (sym (ap list_or o.is))

-- a node's item lies in its parent's list
pub hooked_item : (ss : List (Option Slot)) (v : Orders) (m : ℕ) (c : Slot) (h : Hook) → IsLinked ss v → slot ss m ≡ Some c → c.hook ≡ Some h → HasItem v h.item
hooked_item ss v m c h i there is =
    let u = i.up m c h there is in
    let z = has-place u.entry (entries v u.parent.list) u.has in (
      u.parent.list,
      z.0,
      entries v u.parent.list,
      subst (λ k. IsAt v k u.parent.list z.0 (entries v u.parent.list)) u.item
          (item-at v u.parent.list z.0 (entries v u.parent.list) u.entry (live_list ss v h.parent u.parent i u.is) z.1),
    )

-- a child of a place, by its slot, its parent's and its entry
pub record IsPlaced (ss : List (Option Slot)) (v : Orders) (p place c : ℕ) : Type 0 where
  pub parent : Slot
  pub parent_is : slot ss p ≡ Some parent
  pub child : Slot
  pub child_is : slot ss c ≡ Some child
  pub entry : Entry First
  pub at : IsItemAt (entries v parent.list) place entry
  pub number : number_of entry ≡ c
  pub hook : child.hook ≡ Some (record { parent = p; item = entry.item })
  pub list : get v parent.list ≡ Some (entries v parent.list)

pub placed : (ss : List (Option Slot)) (v : Orders) (p place c : ℕ) → IsLinked ss v → IsChildAt (nodes_of ss v) p place c → IsPlaced ss v p place c
placed ss v p place c i h =
    let z = seen ss v p h.0 h.1 in
    let es = entries v z.slot_is.list in
    let r = read-at number_of es place c (ap (λ (it : Node). slice_get it.children place) z.same ∙ h.2) in
    let d = i.down p z.slot_is r.0 z.there (has-at es place r.0 r.1.0.within r.1.0.at) in
    record {
      parent = z.slot_is;
      parent_is = z.there;
      child = d.child;
      child_is = subst (λ k. slot ss k ≡ Some d.child) (sym (number_hung ss p z.slot_is r.0 d) ∙ r.1.1) d.is;
      entry = r.0;
      at = r.1.0;
      number = r.1.1;
      hook = d.hook;
      list = live_list ss v p z.slot_is i z.there;
    }

-- and the item by which it is found lies there
pub placed_item : (ss : List (Option Slot)) (v : Orders) (p place c : ℕ) (s : Slot) (h : Hook) (i : IsLinked ss v) (k : IsChildAt (nodes_of ss v) p place c)
    → slot ss c ≡ Some s → s.hook ≡ Some h
    → let u = placed ss v p place c i k in IsAt v h.item u.parent.list place (entries v u.parent.list)
placed_item ss v p place c s h i k there is =
    let u = placed ss v p place c i k in
    let same : s ≡ u.child = same_Some s u.child (sym there ∙ u.child_is) in
    let hooks = same_Some h (record { parent = p; item = u.entry.item }) (sym is ∙ ap (λ (y : Slot). y.hook) same ∙ u.hook) in
    subst (λ j. IsAt v j u.parent.list place (entries v u.parent.list)) (sym (ap (λ (y : Hook). y.item) hooks)) (item-at v u.parent.list place (entries v u.parent.list) u.entry u.list u.at)

-- a root is no child
pub not_placed : (ss : List (Option Slot)) (v : Orders) (p place c : ℕ) (s : Slot) → IsLinked ss v → IsChildAt (nodes_of ss v) p place c → slot ss c ≡ Some s → s.hook ≡ None → ⊥
not_placed ss v p place c s i k there is =
    let u = placed ss v p place c i k in
    none-some (record { parent = p; item = u.entry.item }) (sym is ∙ ap (λ (y : Slot). y.hook) (same_Some s u.child (sym there ∙ u.child_is)) ∙ u.hook)
