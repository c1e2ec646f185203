-- A node holds something else.
use Rattle.std.proofs.Common.{◌≡◌, ℕ, ◌+◌, ◌<◌, ◌^◌, List, sym, ap, ◌∙◌, subst, Option, Some, refl, inl, inr}
use Rattle.std.specs.Option.{option_map}
use Rattle.std.proofs.lemmas.List.{length-map}
use Rattle.std.proofs.lemmas.Option.{same_Some}
use Rattle.child_trees.specs.Lists.{Entry, get}
use Rattle.doc_nodes.specs.declared.firsts.First.{First}
use Rattle.doc_nodes.specs.declared.content.Content.{Content}
use Rattle.doc_nodes.specs.declared.slots.Slot.{Slot}
use Rattle.doc_nodes.specs.Nodes.{Node, is_element, Has, Distinct, Holds}
use Rattle.doc_nodes.specs.Slots.{slot, Writes}
use Rattle.doc_nodes.specs.Firsts.{firsts_of}
use Rattle.doc_nodes.specs.Linked.{Orders, entries, numbers, node_in, nodes_of, IsHung, IsLinked}
use Rattle.doc_nodes.proofs.Among.{same_or_other}
use Rattle.doc_nodes.proofs.Seen.{node_is, seen, shown}

module _ (ss ts : List (Option Slot)) (v : Orders) (n : ℕ) (s : Slot) (content : Content) (i : IsLinked ss v)
    (was : slot ss n ≡ Some s) (r : Writes ss ts n (Some (record s { content = content }))) (same : is_element content ≡ is_element s.content) where
  -- a slot of now, and one of before, under one number
  record Alike (one other : Slot) : Type 0 where
    number : other.number ≡ one.number
    hook : other.hook ≡ one.hook
    depth : other.depth ≡ one.depth
    list : other.list ≡ one.list
    count : other.count ≡ one.count
    element : is_element other.content ≡ is_element one.content

  record Stays (m : ℕ) (t : Slot) : Type 0 where
    now : Slot
    is : slot ts m ≡ Some now
    alike : Alike t now

  stays : (m : ℕ) (t : Slot) → slot ss m ≡ Some t → Stays m t
  stays m t h = elim (same_or_other m n) [
    | inl k ↦ let q : t ≡ s = same_Some t s (sym h ∙ ap (slot ss) k ∙ was) in
        record {
          now = record s { content = content };
          is = ap (slot ts) k ∙ r.changed;
          alike = subst (λ y. Alike y (record s { content = content })) (sym q) (record { number = refl; hook = refl; depth = refl; list = refl; count = refl; element = same });
        }
    | inr d ↦ record { now = t; is = r.others m d ∙ h; alike = record { number = refl; hook = refl; depth = refl; list = refl; count = refl; element = refl } }
  ]

  record Was (m : ℕ) (t : Slot) : Type 0 where
    old : Slot
    is : slot ss m ≡ Some old
    alike : Alike old t

  before : (m : ℕ) (t : Slot) → slot ts m ≡ Some t → Was m t
  before m t h = elim (same_or_other m n) [
    | inl k ↦ let q : t ≡ record s { content = content } = same_Some t (record s { content = content }) (sym h ∙ ap (slot ts) k ∙ r.changed) in
        record {
          old = s;
          is = ap (slot ss) k ∙ was;
          alike = subst (Alike s) (sym q) (record { number = refl; hook = refl; depth = refl; list = refl; count = refl; element = same });
        }
    | inr d ↦ record { old = t; is = sym (r.others m d) ∙ h; alike = record { number = refl; hook = refl; depth = refl; list = refl; count = refl; element = refl } }
  ]

  hung : (m : ℕ) (t u : Slot) (x : Entry First) → u.depth ≡ t.depth → IsHung ss m t x → IsHung ts m u x
  hung m t u x d h =
      let k = stays h.number h.child h.is in
      record {
        number = h.number;
        child = k.now;
        is = k.is;
        act = h.act ∙ ap (λ b. firsts_of (record { number = h.number; is_element = b })) (sym k.alike.element);
        element = h.element ∙ sym k.alike.element;
        marked = h.marked ∙ sym k.alike.element;
        hook = k.alike.hook ∙ h.hook;
        below = k.alike.depth ∙ h.below ∙ ap (λ y. y + 1) (sym d);
      }

  pub linked-write : IsLinked ts v
  linked-write = record {
    own = λ m t h. let z = before m t h in z.alike.number ∙ i.own m z.old z.is;
    owner = λ m t h. let z = before m t h in let o = i.owner m z.old z.is in record { list = o.list; is = ap (get v) z.alike.list ∙ o.is; count = z.alike.count ∙ o.count };
    apart = λ a b t u h k q. let y = before a t h in let z = before b u k in i.apart a b y.old z.old y.is z.is (sym y.alike.list ∙ q ∙ z.alike.list);
    down = λ m t x h k. let z = before m t h in hung m z.old t x z.alike.depth (i.down m z.old x z.is (subst (λ y. Has x (entries v y)) z.alike.list k));
    up = λ m t h a b.
        let z = before m t a in
        let u = i.up m z.old h z.is (sym z.alike.hook ∙ b) in
        let k = stays h.parent u.parent u.is in
        record { parent = k.now; is = k.is; entry = u.entry; item = u.item; child = u.child; has = subst (λ y. Has u.entry (entries v y)) (sym k.alike.list) u.has };
    once = λ m t h. let z = before m t h in subst (λ y. Distinct (numbers (entries v y))) (sym z.alike.list) (i.once m z.old z.is);
    few = subst (λ k. k < 2 ^ 32) (sym r.size) i.few;
  }

  pub holds-write : Holds (nodes_of ss v) (nodes_of ts v) n content
  holds-write = record {
    size = length-map ts (option_map (node_in v)) ∙ r.size ∙ sym (length-map ss (option_map (node_in v)));
    here = λ it h.
        let z = seen ss v n it h in
        let q : node_in v s ≡ it = ap (node_in v) (same_Some s z.slot_is (sym was ∙ z.there)) ∙ z.same in
        shown ts v n (record s { content = content }) r.changed ∙ ap (λ (y : Node). Some (record y { content = content })) q;
    others = λ m d. node_is ts v m ∙ ap (option_map (node_in v)) (r.others m d) ∙ sym (node_is ss v m);
  }

-- an element for an element, a text for a text
pub same_kind : (v : Orders) (s : Slot) (it : Node) (content : Content) → node_in v s ≡ it → is_element it.content ≡ is_element content → is_element content ≡ is_element s.content
same_kind v s it content same e = sym e ∙ ap (λ (y : Node). is_element y.content) (sym same)
