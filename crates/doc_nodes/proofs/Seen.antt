-- What is seen of slots and orders is sound.
use Rattle.std.proofs.Common.{◌≡◌, ℕ, zero, suc, ◌+◌, ◌<◌, ◌^◌, List, [], ◌∷◌, length, sym, ap, ◌∙◌, subst, Option, Some, None, refl}
use Rattle.std.specs.Option.{option_map}
use Rattle.std.proofs.Math.ListN.{get_or-map}
use Rattle.std.proofs.lemmas.List.{length-map}
use Rattle.std.proofs.lemmas.Option.{same_Some, none-some}
use Rattle.child_trees.specs.Lists.{Entry, get}
use Rattle.doc_nodes.specs.declared.firsts.First.{First}
use Rattle.doc_nodes.specs.declared.slots.Slot.{Slot}
use Rattle.doc_nodes.specs.declared.slots.Hook.{Hook}
use Rattle.doc_nodes.specs.Nodes.{Node, node, IsNode, children_by, Has, Distinct, IsSound}
use Rattle.doc_nodes.specs.Slots.{slot}
use Rattle.doc_nodes.specs.Linked.{Orders, list_or, entries, numbers, number_of, or_zero, node_in, nodes_of, IsHung, IsLinked}
use Rattle.doc_nodes.proofs.Among.{from-map, has-map}

pub node_is : (ss : List (Option Slot)) (v : Orders) (n : ℕ) → node (nodes_of ss v) n ≡ option_map (node_in v) (slot ss n)
node_is ss v n = get_or-map (option_map (node_in v)) ss n None

-- the slot of a node that is seen
pub record IsSeen (ss : List (Option Slot)) (v : Orders) (n : ℕ) (it : Node) : Type 0 where
  pub slot_is : Slot
  pub there : slot ss n ≡ Some slot_is
  pub same : node_in v slot_is ≡ it

from_seen : (ss : List (Option Slot)) (v : Orders) (n : ℕ) (it : Node) (o : Option Slot) → slot ss n ≡ o → option_map (node_in v) o ≡ Some it → IsSeen ss v n it
from_seen ss v n it None e k = absurd (none-some it k)
from_seen ss v n it (Some s) e k = record { slot_is = s; there = e; same = same_Some (node_in v s) it k }

pub seen : (ss : List (Option Slot)) (v : Orders) (n : ℕ) (it : Node) → IsNode (nodes_of ss v) n it → IsSeen ss v n it
seen ss v n it h = from_seen ss v n it (slot ss n) refl (sym (node_is ss v n) ∙ h)

pub shown : (ss : List (Option Slot)) (v : Orders) (n : ℕ) (s : Slot) → slot ss n ≡ Some s → IsNode (nodes_of ss v) n (node_in v s)
shown ss v n s e = node_is ss v n ∙ ap (option_map (node_in v)) e

parent_of : (h : Option Hook) → Option ℕ
parent_of h = option_map (λ k. k.parent) h

pub record IsHook (o : Option Hook) (p : ℕ) : Type 0 where
  pub hook : Hook
  pub is : o ≡ Some hook
  pub parent : hook.parent ≡ p

pub hooked : (o : Option Hook) (p : ℕ) → option_map (λ k. k.parent) o ≡ Some p → IsHook o p
hooked None p e = absurd (none-some p e)
hooked (Some h) p e = record { hook = h; is = refl; parent = same_Some h.parent p e }

pub number_hung : (ss : List (Option Slot)) (n : ℕ) (s : Slot) (e : Entry First) (h : IsHung ss n s e) → number_of e ≡ h.number
number_hung ss n s e h = ap (λ a. or_zero a.child) h.act

pub sound : (ss : List (Option Slot)) (v : Orders) → IsLinked ss v → IsSound (nodes_of ss v)
sound ss v i = record {
  down = λ p c it k h.
      let z = seen ss v p it k in
      let m = from-map number_of (entries v z.slot_is.list) c (subst (λ y. Has c y.children) (sym z.same) h) in
      let d = i.down p z.slot_is m.item z.there m.has in
      let here : d.number ≡ c = sym (number_hung ss p z.slot_is m.item d) ∙ m.is in
      record {
        child = node_in v d.child;
        is = subst (λ y. IsNode (nodes_of ss v) y (node_in v d.child)) here (shown ss v d.number d.child d.is);
        parent = ap (option_map (λ h. h.parent)) d.hook;
        below = d.below ∙ ap (λ y. y.depth + 1) z.same;
      };
  up = λ c p it k h.
      let z = seen ss v c it k in
      let o = hooked z.slot_is.hook p (ap (λ y. y.parent) z.same ∙ h) in
      let u = i.up c z.slot_is o.hook z.there o.is in
      record {
        parent = node_in v u.parent;
        is = subst (λ y. IsNode (nodes_of ss v) y (node_in v u.parent)) o.parent (shown ss v o.hook.parent u.parent u.is);
        has = subst (λ y. Has y (numbers (entries v u.parent.list))) u.child (has-map number_of (entries v u.parent.list) u.entry u.has);
      };
  once = λ p it k. let z = seen ss v p it k in subst (λ y. Distinct y.children) z.same (i.once p z.slot_is z.there);
  few = subst (λ n. n < 2 ^ 32) (sym (length-map ss (option_map (node_in v)))) i.few;
}

-- the count of a slot is the number of its children
pub counted : (ss : List (Option Slot)) (v : Orders) (n : ℕ) (s : Slot) → IsLinked ss v → slot ss n ≡ Some s → s.count ≡ length (children_by (node (nodes_of ss v) n))
counted ss v n s i e =
    let o = i.owner n s e in
    o.count ∙ ap (λ y. length (list_or y)) (sym o.is) ∙ sym (length-map (entries v s.list) number_of) ∙ ap (λ y. length (children_by y)) (sym (shown ss v n s e))

-- every entry has its child
pub has_child : (ss : List (Option Slot)) (v : Orders) (n : ℕ) (s : Slot) → IsLinked ss v → slot ss n ≡ Some s → (e : Entry First) → Has e (entries v s.list) → e.act.child ≡ Some (number_of e)
has_child ss v n s i h e k =
    let d = i.down n s e h k in
    ap (λ a. a.child) d.act ∙ ap Some (sym (number_hung ss n s e d))

-- slots that differ in free numbers alone
pub linked_same : (ss ts : List (Option Slot)) (v : Orders) → ((n : ℕ) → slot ts n ≡ slot ss n) → length ts < 2 ^ 32 → IsLinked ss v → IsLinked ts v
linked_same ss ts v same few i = record {
  own = λ n s h. i.own n s (sym (same n) ∙ h);
  owner = λ n s h. i.owner n s (sym (same n) ∙ h);
  apart = λ n m s t h k. i.apart n m s t (sym (same n) ∙ h) (sym (same m) ∙ k);
  down = λ n s e h k. let d = i.down n s e (sym (same n) ∙ h) k in
      record { number = d.number; child = d.child; is = same d.number ∙ d.is; act = d.act; element = d.element; marked = d.marked; hook = d.hook; below = d.below };
  up = λ m c h a b. let u = i.up m c h (sym (same m) ∙ a) b in
      record { parent = u.parent; is = same h.parent ∙ u.is; entry = u.entry; item = u.item; child = u.child; has = u.has };
  once = λ n s h. i.once n s (sym (same n) ∙ h);
  few = few;
}

-- what is seen of lists that are the same under each number
pub seen_same_lists : (ss : List (Option Slot)) (v w : Orders) → ((n : ℕ) (s : Slot) → slot ss n ≡ Some s → get w s.list ≡ get v s.list) → nodes_of ss w ≡ nodes_of ss v
seen_same_lists [] v w h = refl
seen_same_lists (None ∷ ss) v w h = ap (λ ns. None ∷ ns) (seen_same_lists ss v w (λ n s e. h (suc n) s e))
seen_same_lists (Some s ∷ ss) v w h = λ k.
    Some (record { parent = option_map (λ z. z.parent) s.hook; depth = s.depth; content = s.content; children = numbers (list_or (h zero s refl k)) })
    ∷ seen_same_lists ss v w (λ n t e. h (suc n) t e) k

pub linked_lists : (ss : List (Option Slot)) (v w : Orders) → ((n : ℕ) (s : Slot) → slot ss n ≡ Some s → get w s.list ≡ get v s.list) → IsLinked ss v → IsLinked ss w
linked_lists ss v w same i = record {
  own = i.own;
  owner = λ n s h. let o = i.owner n s h in record { list = o.list; is = same n s h ∙ o.is; count = o.count };
  apart = i.apart;
  down = λ n s e h k. i.down n s e h (subst (λ y. Has e (list_or y)) (same n s h) k);
  up = λ m c h a b. let u = i.up m c h a b in
      record { parent = u.parent; is = u.is; entry = u.entry; item = u.item; child = u.child; has = subst (λ y. Has u.entry (list_or y)) (sym (same h.parent u.parent u.is)) u.has };
  once = λ n s h. subst (λ y. Distinct (numbers (list_or y))) (sym (same n s h)) (i.once n s h);
  few = i.few;
}
