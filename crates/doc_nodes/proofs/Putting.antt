-- A node more.
use Rattle.std.proofs.Common.{◌≡◌, ◌≢◌, ◌⊎◌, ℕ, ◌+◌, ◌<◌, ◌^◌, List, [], length, insert, sym, ap, ◌∙◌, subst, Option, Some, None, refl, inl, inr}
use Rattle.std.specs.Option.{option_map}
use Rattle.std.proofs.lemmas.List.{length-map}
use Rattle.std.proofs.lemmas.List.Edits.{length-insert}
use Rattle.std.proofs.lemmas.Option.{same_Some, none-some}
use Rattle.child_trees.specs.Lists.{Entry, get}
use Rattle.doc_nodes.specs.declared.firsts.First.{First}
use Rattle.doc_nodes.specs.declared.slots.Slot.{Slot}
use Rattle.doc_nodes.specs.declared.slots.Hook.{Hook}
use Rattle.doc_nodes.specs.Nodes.{Node, is_element, Has, Lacks, Distinct, Inserts}
use Rattle.doc_nodes.specs.Slots.{slot}
use Rattle.doc_nodes.specs.Firsts.{firsts_of}
use Rattle.doc_nodes.specs.Linked.{Orders, list_or, entries, numbers, number_of, or_zero, node_in, nodes_of, IsHung, IsOwner, Hangs, IsLinked, Puts}
use Rattle.doc_nodes.proofs.Among.{same_or_other, map-insert, has-inserted, has-insert, from-insert, distinct-insert, lacks-all, from-map}
use Rattle.doc_nodes.proofs.Seen.{node_is, seen, shown, number_hung}

module _ (ss : List (Option Slot)) (v : Orders) (ts : List (Option Slot)) (w : Orders) (p : ℕ) (s : Slot) (place c : ℕ) (new : Slot) (e : Entry First)
    (i : IsLinked ss v) (r : Puts ss v ts w p s place c new e) where
  abbrev more : Slot
  more = record s { count = s.count + 1 }

  p_not_c : p ≢ c
  p_not_c k = none-some s (sym r.free ∙ ap (slot ss) (sym k) ∙ r.parent_was)

  live_not_c : (m : ℕ) (t : Slot) → slot ss m ≡ Some t → m ≢ c
  live_not_c m t h k = none-some t (sym r.free ∙ ap (slot ss) (sym k) ∙ h)

  -- a list that was there is not the new one
  old_list : (m : ℕ) (t : Slot) → slot ss m ≡ Some t → t.list ≢ new.list
  old_list = r.fresh

  -- that of another node is not the parent's
  other_list : (m : ℕ) (t : Slot) → slot ss m ≡ Some t → m ≢ p → t.list ≢ s.list
  other_list m t h n k = n (i.apart m p t s h r.parent_was k)

  entries_new : entries w new.list ≡ []
  entries_new = ap list_or r.empty

  entries_parent : entries w s.list ≡ insert (entries v s.list) place e
  entries_parent = ap list_or r.edited

  entries_old : (m : ℕ) (t : Slot) → slot ss m ≡ Some t → m ≢ p → get w t.list ≡ get v t.list
  entries_old m t h n = r.rest t.list (other_list m t h n) (old_list m t h)

  number_new : number_of e ≡ c
  number_new = ap (λ a. or_zero a.child) r.act

  -- a slot of now is the new one, the parent's, or one of before
  record IsThe (m n : ℕ) (t u : Slot) : Type 0 where
    at : m ≡ n
    is : t ≡ u

  record IsOld (m : ℕ) (t : Slot) : Type 0 where
    not_p : m ≢ p
    is : slot ss m ≡ Some t

  kinds : (m : ℕ) (t : Slot) → slot ts m ≡ Some t → IsThe m c t new ⊎ (IsThe m p t more ⊎ IsOld m t)
  kinds m t h = elim (same_or_other m c) [
    | inl k ↦ inl (record { at = k; is = same_Some t new (sym h ∙ ap (slot ts) k ∙ r.here) })
    | inr n ↦ elim (same_or_other m p) [
      | inl k ↦ inr (inl (record { at = k; is = same_Some t more (sym h ∙ ap (slot ts) k ∙ r.parent_is) }))
      | inr o ↦ inr (inr (record { not_p = o; is = sym (r.others m o n) ∙ h }))
    ]
  ]

  -- a slot of before is there still
  record Stays (m : ℕ) (t : Slot) : Type 0 where
    now : Slot
    is : slot ts m ≡ Some now
    same : record t { count = now.count } ≡ now

  stays : (m : ℕ) (t : Slot) → slot ss m ≡ Some t → Stays m t
  stays m t h = elim (same_or_other m p) [
    | inl k ↦ let q : t ≡ s = same_Some t s (sym h ∙ ap (slot ss) k ∙ r.parent_was) in
        record { now = more; is = ap (slot ts) k ∙ r.parent_is; same = ap (λ (x : Slot). record x { count = s.count + 1 }) q }
    | inr n ↦ record { now = t; is = r.others m n (live_not_c m t h) ∙ h; same = refl }
  ]

  hung : (n : ℕ) (t u : Slot) (x : Entry First) → u.depth ≡ t.depth → IsHung ss n t x → IsHung ts n u x
  hung n t u x d h =
      let k = stays h.number h.child h.is in
      record {
        number = h.number;
        child = k.now;
        is = k.is;
        act = subst (λ (y : Slot). x.act ≡ firsts_of (record { number = h.number; is_element = is_element y.content })) k.same h.act;
        element = subst (λ (y : Slot). x.element ≡ is_element y.content) k.same h.element;
        marked = subst (λ (y : Slot). x.marked ≡ is_element y.content) k.same h.marked;
        hook = subst (λ (y : Slot). y.hook ≡ Some (record { parent = n; item = x.item })) k.same h.hook;
        below = subst (λ (y : Slot). y.depth ≡ u.depth + 1) k.same (h.below ∙ ap (λ y. y + 1) (sym d));
      }

  hung_new : IsHung ts p more e
  hung_new = record { number = c; child = new; is = r.here; act = r.act; element = r.element; marked = r.marked; hook = r.hook; below = r.below }

  -- the entries of before are there still
  keeps : (m : ℕ) (t : Slot) (x : Entry First) → slot ss m ≡ Some t → Has x (entries v t.list) → Has x (entries w t.list)
  keeps m t x h k = elim (same_or_other m p) [
    | inl o ↦ let q : t.list ≡ s.list = ap (λ y. y.list) (same_Some t s (sym h ∙ ap (slot ss) o ∙ r.parent_was)) in
        subst (λ y. Has x (entries w y)) (sym q) (subst (Has x) (sym entries_parent) (has-insert (entries v s.list) place e x (subst (λ y. Has x (entries v y)) q k)))
    | inr n ↦ subst (λ y. Has x (list_or y)) (sym (entries_old m t h n)) k
  ]

  hangs : (m : ℕ) (h : Hook) → Hangs ss v m h → Hangs ts w m h
  hangs m h u =
      let k = stays h.parent u.parent u.is in
      record {
        parent = k.now;
        is = k.is;
        entry = u.entry;
        item = u.item;
        child = u.child;
        has = subst (λ (y : Slot). Has u.entry (entries w y.list)) k.same (keeps h.parent u.parent u.entry u.is u.has);
      }

  lacks : Lacks c (numbers (entries v s.list))
  lacks = lacks-all c (numbers (entries v s.list)) (λ x h.
      let m = from-map number_of (entries v s.list) x h in
      let d = i.down p s m.item r.parent_was m.has in
      subst (λ y. y ≢ c) (sym (number_hung ss p s m.item d) ∙ m.is) (live_not_c d.number d.child d.is))

  -- the list of a slot of now is the new one, or one of before
  record WasList (m : ℕ) (t : Slot) : Type 0 where
    old : Slot
    is : slot ss m ≡ Some old
    same : old.list ≡ t.list

  lists : (m : ℕ) (t : Slot) → slot ts m ≡ Some t → ((m ≡ c) × (t.list ≡ new.list)) ⊎ WasList m t
  lists m t h = elim (kinds m t h) [
    | inl k ↦ inl (k.at, ap (λ y. y.list) k.is)
    | inr (inl k) ↦ inr (record { old = s; is = ap (slot ss) k.at ∙ r.parent_was; same = ap (λ y. y.list) (sym k.is) })
    | inr (inr k) ↦ inr (record { old = t; is = k.is; same = refl })
  ]

  owner : (n : ℕ) (t : Slot) → slot ts n ≡ Some t → IsOwner w t
  owner n t h = elim (kinds n t h) [
    | inl k ↦ subst (IsOwner w) (sym k.is) (record { list = []; is = r.empty; count = r.no_children })
    | inr (inl k) ↦ subst (IsOwner w) (sym k.is) (
        let o = i.owner p s r.parent_was in
        let l : entries v s.list ≡ o.list = ap list_or o.is in
        let len = length-insert (entries v s.list) place e r.within in
        record { list = insert (entries v s.list) place e; is = r.edited; count = ap (λ y. y + 1) (o.count ∙ ap length (sym l)) ∙ sym len })
    | inr (inr k) ↦ let o = i.owner n t k.is in record { list = o.list; is = entries_old n t k.is k.not_p ∙ o.is; count = o.count }
  ]

  down : (n : ℕ) (t : Slot) (x : Entry First) → slot ts n ≡ Some t → Has x (entries w t.list) → IsHung ts n t x
  down n t x h k = elim (kinds n t h) [
    | inl z ↦ absurd (subst (Has x) (ap (λ y. entries w y.list) z.is ∙ entries_new) k)
    | inr (inl z) ↦
        subst (λ y. IsHung ts y t x) (sym z.at) (subst (λ y. IsHung ts p y x) (sym z.is)
        (elim (from-insert (entries v s.list) place e x (subst (Has x) (ap (λ y. entries w y.list) z.is ∙ entries_parent) k)) [
          | inl q ↦ subst (IsHung ts p more) q hung_new
          | inr q ↦ hung p s more x refl (i.down p s x r.parent_was q)
        ]))
    | inr (inr z) ↦ hung n t t x refl (i.down n t x z.is (subst (λ y. Has x (list_or y)) (entries_old n t z.is z.not_p) k))
  ]

  up : (m : ℕ) (t : Slot) (h : Hook) → slot ts m ≡ Some t → t.hook ≡ Some h → Hangs ts w m h
  up m t h a b = elim (kinds m t a) [
    | inl z ↦
        let q : record { parent = p; item = e.item } ≡ h = same_Some (record { parent = p; item = e.item }) h (sym r.hook ∙ ap (λ y. y.hook) (sym z.is) ∙ b) in
        subst (λ y. Hangs ts w y h) (sym z.at) (subst (Hangs ts w c) q (record {
          parent = more;
          is = r.parent_is;
          entry = e;
          item = refl;
          child = number_new;
          has = subst (Has e) (sym entries_parent) (has-inserted (entries v s.list) place e);
        }))
    | inr (inl z) ↦ hangs m h (i.up m s h (ap (slot ss) z.at ∙ r.parent_was) (ap (λ y. y.hook) (sym z.is) ∙ b))
    | inr (inr z) ↦ hangs m h (i.up m t h z.is b)
  ]

  once : (n : ℕ) (t : Slot) → slot ts n ≡ Some t → Distinct (numbers (entries w t.list))
  once n t h = elim (kinds n t h) [
    | inl z ↦ subst (λ y. Distinct (numbers y)) (sym (ap (λ y. entries w y.list) z.is ∙ entries_new)) tt
    | inr (inl z) ↦ subst (λ y. Distinct (numbers y)) (sym (ap (λ y. entries w y.list) z.is ∙ entries_parent))
        (subst Distinct (sym (map-insert number_of (entries v s.list) place e))
        (distinct-insert (numbers (entries v s.list)) place (number_of e) (subst (λ y. Lacks y (numbers (entries v s.list))) (sym number_new) lacks) (i.once p s r.parent_was)))
    | inr (inr z) ↦ subst (λ y. Distinct (numbers (list_or y))) (sym (entries_old n t z.is z.not_p)) (i.once n t z.is)
  ]

  own : (n : ℕ) (t : Slot) → slot ts n ≡ Some t → t.number ≡ n
  own n t h = elim (kinds n t h) [
    | inl z ↦ ap (λ y. y.number) z.is ∙ r.number ∙ sym z.at
    | inr (inl z) ↦ ap (λ y. y.number) z.is ∙ i.own p s r.parent_was ∙ sym z.at
    | inr (inr z) ↦ i.own n t z.is
  ]

  apart : (n m : ℕ) (t u : Slot) → slot ts n ≡ Some t → slot ts m ≡ Some u → t.list ≡ u.list → n ≡ m
  apart n m t u h k q = elim (lists n t h) [
    | inl a ↦ elim (lists m u k) [
      | inl b ↦ a.0 ∙ sym b.0
      | inr b ↦ absurd (old_list m b.old b.is (b.same ∙ sym q ∙ a.1))
    ]
    | inr a ↦ elim (lists m u k) [
      | inl b ↦ absurd (old_list n a.old a.is (a.same ∙ q ∙ b.1))
      | inr b ↦ i.apart n m a.old b.old a.is b.is (a.same ∙ q ∙ sym b.same)
    ]
  ]

  pub linked-put : IsLinked ts w
  linked-put = record { own = own; owner = owner; apart = apart; down = down; up = up; once = once; few = subst (λ n. n < 2 ^ 32) (sym r.size) i.few }

  seen_same : (m : ℕ) → m ≢ p → (o : Option Slot) → slot ss m ≡ o → option_map (node_in w) o ≡ option_map (node_in v) o
  seen_same m n None h = refl
  seen_same m n (Some t) h = ap (λ y. Some (record { parent = option_map (λ k. k.parent) t.hook; depth = t.depth; content = t.content; children = numbers (list_or y) })) (entries_old m t h n)

  children_new : numbers (entries w s.list) ≡ insert (numbers (entries v s.list)) place c
  children_new = ap numbers entries_parent ∙ map-insert number_of (entries v s.list) place e ∙ ap (insert (numbers (entries v s.list)) place) number_new

  pub inserts-put : Inserts (nodes_of ss v) (nodes_of ts w) p place c new.content
  inserts-put = record {
    size = length-map ts (option_map (node_in w)) ∙ r.size ∙ sym (length-map ss (option_map (node_in v)));
    parent = λ it h.
        let z = seen ss v p it h in
        let q : node_in v s ≡ it = ap (node_in v) (same_Some s z.slot_is (sym r.parent_was ∙ z.there)) ∙ z.same in
        shown ts w p more r.parent_is ∙ ap (λ y. Some (record { parent = option_map (λ k. k.parent) s.hook; depth = s.depth; content = s.content; children = y })) children_new
        ∙ ap (λ (y : Node). Some (record y { children = insert y.children place c })) q;
    child = λ it h.
        let z = seen ss v p it h in
        let q : node_in v s ≡ it = ap (node_in v) (same_Some s z.slot_is (sym r.parent_was ∙ z.there)) ∙ z.same in
        shown ts w c new r.here
        ∙ ap (λ y. Some (record { parent = option_map (λ k. k.parent) y; depth = new.depth; content = new.content; children = numbers (entries w new.list) })) r.hook
        ∙ ap (λ y. Some (record { parent = Some p; depth = y; content = new.content; children = numbers (entries w new.list) })) (r.below ∙ ap (λ (y : Node). y.depth + 1) q)
        ∙ ap (λ y. Some (record { parent = Some p; depth = it.depth + 1; content = new.content; children = numbers y })) entries_new;
    others = λ m n o. node_is ts w m ∙ ap (option_map (node_in w)) (r.others m n o) ∙ seen_same m n (slot ss m) refl ∙ sym (node_is ss v m);
  }
