-- A node less.
use Rattle.std.proofs.Common.{◌≡◌, ◌≢◌, ◌⊎◌, ℕ, ◌+◌, ◌<◌, ◌^◌, List, length, remove, get_or, sym, ap, ◌∙◌, subst, Option, Some, None, refl, inl, inr, arith}
use Rattle.std.specs.Option.{option_map}
use Rattle.std.proofs.lemmas.List.{length-map, get_or-map}
use Rattle.std.proofs.lemmas.List.Edits.{length-remove}
use Rattle.std.proofs.lemmas.Option.{same_Some, none-some}
use Rattle.child_trees.specs.Lists.{Entry, get}
use Rattle.doc_nodes.specs.declared.firsts.First.{First}
use Rattle.doc_nodes.specs.declared.slots.Slot.{Slot}
use Rattle.doc_nodes.specs.declared.slots.Hook.{Hook}
use Rattle.doc_nodes.specs.Nodes.{Node, is_element, Has, Lacks, Distinct, Removes}
use Rattle.doc_nodes.specs.Slots.{slot}
use Rattle.doc_nodes.specs.Firsts.{firsts_of}
use Rattle.doc_nodes.specs.Linked.{Orders, list_or, entries, numbers, number_of, node_in, nodes_of, IsHung, IsOwner, Hangs, IsLinked, Takes}
use Rattle.doc_nodes.proofs.Among.{same_or_other, map-remove, has-at, has-map, has-remove, from-remove, distinct-remove, lacks-has}
use Rattle.doc_nodes.proofs.Seen.{node_is, seen, shown, number_hung}

module _ (ss : List (Option Slot)) (v : Orders) (ts : List (Option Slot)) (w : Orders) (p : ℕ) (s : Slot) (place c : ℕ) (old : Slot) (e : Entry First)
    (i : IsLinked ss v) (r : Takes ss v ts w p s place c old e) where
  abbrev less : Slot
  less = r.parent_is.0

  same_less : less ≡ record s { count = less.count }
  same_less = r.parent_is.2

  e_there : Has e (entries v s.list)
  e_there = has-at (entries v s.list) place e r.within r.at

  e_hung : IsHung ss p s e
  e_hung = i.down p s e r.parent_was e_there

  p_not_c : p ≢ c
  p_not_c k =
      let q : s ≡ old = same_Some s old (sym r.parent_was ∙ ap (slot ss) k ∙ r.was) in
      absurd (subst (Has e) (ap (λ y. entries v y.list) q ∙ r.leaf) e_there)

  -- a slot of now is the parent's, or one of before
  record IsParent (m : ℕ) (t : Slot) : Type 0 where
    at : m ≡ p
    is : t ≡ less

  record IsOld (m : ℕ) (t : Slot) : Type 0 where
    not_p : m ≢ p
    not_c : m ≢ c
    is : slot ss m ≡ Some t

  kinds : (m : ℕ) (t : Slot) → slot ts m ≡ Some t → IsParent m t ⊎ IsOld m t
  kinds m t h = elim (same_or_other m p) [
    | inl k ↦ inl (record { at = k; is = same_Some t less (sym h ∙ ap (slot ts) k ∙ r.parent_is.1) })
    | inr n ↦ elim (same_or_other m c) [
      | inl k ↦ absurd (none-some t (sym r.gone ∙ ap (slot ts) (sym k) ∙ h))
      | inr o ↦ inr (record { not_p = n; not_c = o; is = sym (r.others m n o) ∙ h })
    ]
  ]

  -- a slot of before but c's is there still
  record Stays (m : ℕ) (t : Slot) : Type 0 where
    now : Slot
    is : slot ts m ≡ Some now
    same : record t { count = now.count } ≡ now

  stays : (m : ℕ) (t : Slot) → slot ss m ≡ Some t → m ≢ c → Stays m t
  stays m t h n = elim (same_or_other m p) [
    | inl k ↦ let q : t ≡ s = same_Some t s (sym h ∙ ap (slot ss) k ∙ r.parent_was) in
        record { now = less; is = ap (slot ts) k ∙ r.parent_is.1; same = ap (λ (x : Slot). record x { count = less.count }) q ∙ sym same_less }
    | inr o ↦ record { now = t; is = r.others m o n ∙ h; same = refl }
  ]

  list_less : less.list ≡ s.list
  list_less = ap (λ y. y.list) same_less

  entries_less : entries w less.list ≡ remove (entries v s.list) place
  entries_less = ap (entries w) list_less ∙ ap list_or r.edited

  entries_old : (m : ℕ) (t : Slot) → slot ss m ≡ Some t → m ≢ p → m ≢ c → get w t.list ≡ get v t.list
  entries_old m t h n o = r.rest t.list (λ k. n (i.apart m p t s h r.parent_was k)) (λ k. o (i.apart m c t old h r.was k))

  from_less : (x : Entry First) → Has x (remove (entries v s.list) place) → Has x (entries v s.list)
  from_less x h = from-remove (entries v s.list) place e x r.within r.at h

  within_numbers : place < length (numbers (entries v s.list))
  within_numbers = subst (λ n. place < n) (sym (length-map (entries v s.list) number_of)) r.within

  at_numbers : (d : ℕ) → get_or (numbers (entries v s.list)) place d ≡ c
  at_numbers d = get_or-map number_of (entries v s.list) place e d r.within ∙ ap number_of (r.at e) ∙ r.child

  numbers_less : numbers (remove (entries v s.list) place) ≡ remove (numbers (entries v s.list)) place
  numbers_less = map-remove number_of (entries v s.list) place

  rest : Distinct (remove (numbers (entries v s.list)) place) × Lacks c (remove (numbers (entries v s.list)) place)
  rest = distinct-remove (numbers (entries v s.list)) place c within_numbers at_numbers (i.once p s r.parent_was)

  number_not_c : (x : Entry First) → Has x (remove (entries v s.list) place) → number_of x ≢ c
  number_not_c x h = lacks-has c (number_of x) (remove (numbers (entries v s.list)) place) rest.1 (subst (Has (number_of x)) numbers_less (has-map number_of (remove (entries v s.list) place) x h))

  hung : (n : ℕ) (t u : Slot) (x : Entry First) → u.depth ≡ t.depth → (h : IsHung ss n t x) → h.number ≢ c → IsHung ts n u x
  hung n t u x d h o =
      let k = stays h.number h.child h.is o in
      record {
        number = h.number;
        child = k.now;
        is = k.is;
        act = subst (λ (y : Slot). x.act ≡ firsts_of (record { number = h.number; is_element = is_element y.content })) k.same h.act;
        element = subst (λ (y : Slot). x.element ≡ is_element y.content) k.same h.element;
        marked = subst (λ (y : Slot). x.marked ≡ is_element y.content) k.same h.marked;
        hook = subst (λ (y : Slot). y.hook ≡ Some (record { parent = n; item = x.item })) k.same h.hook;
        below = subst (λ (y : Slot). y.depth ≡ u.depth + 1) k.same (h.below ∙ ap (λ y. y + 1) (sym d));
      }

  down : (n : ℕ) (t : Slot) (x : Entry First) → slot ts n ≡ Some t → Has x (entries w t.list) → IsHung ts n t x
  down n t x h k = elim (kinds n t h) [
    | inl z ↦
        let there = subst (Has x) (ap (λ y. entries w y.list) z.is ∙ entries_less) k in
        let d = i.down p s x r.parent_was (from_less x there) in
        subst (λ y. IsHung ts y t x) (sym z.at) (subst (λ y. IsHung ts p y x) (sym z.is)
        (hung p s less x (ap (λ y. y.depth) same_less) d (λ q. number_not_c x there (number_hung ss p s x d ∙ q))))
    | inr z ↦
        let d = i.down n t x z.is (subst (λ y. Has x (list_or y)) (entries_old n t z.is z.not_p z.not_c) k) in
        hung n t t x refl d (λ q.
        let same : d.child ≡ old = same_Some d.child old (sym d.is ∙ ap (slot ss) q ∙ r.was) in
        let hooks = same_Some (record { parent = n; item = x.item }) (record { parent = p; item = e.item }) (sym d.hook ∙ ap (λ y. y.hook) same ∙ r.hook) in
        z.not_p (ap (λ y. y.parent) hooks))
  ]

  hangs : (m : ℕ) (h : Hook) → m ≢ c → Hangs ss v m h → Hangs ts w m h
  hangs m h n u =
      let not_leaf : h.parent ≢ c = λ q.
      absurd (subst (Has u.entry) (ap (λ y. entries v y.list) (same_Some u.parent old (sym u.is ∙ ap (slot ss) q ∙ r.was)) ∙ r.leaf) u.has) in
      let k = stays h.parent u.parent u.is not_leaf in
      let has : Has u.entry (entries w u.parent.list) = elim (same_or_other h.parent p) [
        | inl o ↦
            let q : u.parent ≡ s = same_Some u.parent s (sym u.is ∙ ap (slot ss) o ∙ r.parent_was) in
            subst (λ (y : Slot). Has u.entry (entries w y.list)) (sym q) (subst (Has u.entry) (sym (ap list_or r.edited))
            (elim (has-remove (entries v s.list) place e u.entry r.within r.at (subst (λ (y : Slot). Has u.entry (entries v y.list)) q u.has)) [
              | inl z ↦ absurd (n (sym u.child ∙ ap number_of (sym z) ∙ r.child))
              | inr z ↦ z
            ]))
        | inr o ↦ subst (λ y. Has u.entry (list_or y)) (sym (entries_old h.parent u.parent u.is o not_leaf)) u.has
      ] in
      record {
        parent = k.now;
        is = k.is;
        entry = u.entry;
        item = u.item;
        child = u.child;
        has = subst (λ (y : Slot). Has u.entry (entries w y.list)) k.same has;
      }

  up : (m : ℕ) (t : Slot) (h : Hook) → slot ts m ≡ Some t → t.hook ≡ Some h → Hangs ts w m h
  up m t h a b = elim (kinds m t a) [
    | inl z ↦ hangs m h (λ q. p_not_c (sym z.at ∙ q)) (i.up m s h (ap (slot ss) z.at ∙ r.parent_was) (ap (λ y. y.hook) (sym same_less) ∙ ap (λ y. y.hook) (sym z.is) ∙ b))
    | inr z ↦ hangs m h z.not_c (i.up m t h z.is b)
  ]

  owner : (n : ℕ) (t : Slot) → slot ts n ≡ Some t → IsOwner w t
  owner n t h = elim (kinds n t h) [
    | inl z ↦ subst (IsOwner w) (sym z.is) (
        let o = i.owner p s r.parent_was in
        let l : length (entries v s.list) ≡ s.count = ap (λ y. length (list_or y)) o.is ∙ sym o.count in
        let len = length-remove (entries v s.list) place r.within in
        let c1 = r.parent_is.3 in
        record { list = remove (entries v s.list) place; is = ap (get w) list_less ∙ r.edited; count = omega arith })
    | inr z ↦ let o = i.owner n t z.is in record { list = o.list; is = entries_old n t z.is z.not_p z.not_c ∙ o.is; count = o.count }
  ]

  once : (n : ℕ) (t : Slot) → slot ts n ≡ Some t → Distinct (numbers (entries w t.list))
  once n t h = elim (kinds n t h) [
    | inl z ↦ subst (λ y. Distinct (numbers y)) (sym (ap (λ y. entries w y.list) z.is ∙ entries_less)) (subst Distinct (sym numbers_less) rest.0)
    | inr z ↦ subst (λ y. Distinct (numbers (list_or y))) (sym (entries_old n t z.is z.not_p z.not_c)) (i.once n t z.is)
  ]

  own : (n : ℕ) (t : Slot) → slot ts n ≡ Some t → t.number ≡ n
  own n t h = elim (kinds n t h) [
    | inl z ↦ ap (λ y. y.number) (z.is ∙ same_less) ∙ i.own p s r.parent_was ∙ sym z.at
    | inr z ↦ i.own n t z.is
  ]

  record WasList (m : ℕ) (t : Slot) : Type 0 where
    before : Slot
    is : slot ss m ≡ Some before
    same : before.list ≡ t.list

  lists : (m : ℕ) (t : Slot) → slot ts m ≡ Some t → WasList m t
  lists m t h = elim (kinds m t h) [
    | inl z ↦ record { before = s; is = ap (slot ss) z.at ∙ r.parent_was; same = sym list_less ∙ ap (λ y. y.list) (sym z.is) }
    | inr z ↦ record { before = t; is = z.is; same = refl }
  ]

  apart : (n m : ℕ) (t u : Slot) → slot ts n ≡ Some t → slot ts m ≡ Some u → t.list ≡ u.list → n ≡ m
  apart n m t u h k q = let a = lists n t h in let b = lists m u k in i.apart n m a.before b.before a.is b.is (a.same ∙ q ∙ sym b.same)

  pub linked-take : IsLinked ts w
  linked-take = record { own = own; owner = owner; apart = apart; down = down; up = up; once = once; few = subst (λ n. n < 2 ^ 32) (sym r.size) i.few }

  seen_same : (m : ℕ) → m ≢ p → m ≢ c → (o : Option Slot) → slot ss m ≡ o → option_map (node_in w) o ≡ option_map (node_in v) o
  seen_same m n k None h = refl
  seen_same m n k (Some t) h = ap (λ y. Some (record { parent = option_map (λ k. k.parent) t.hook; depth = t.depth; content = t.content; children = numbers (list_or y) })) (entries_old m t h n k)

  pub removes-take : Removes (nodes_of ss v) (nodes_of ts w) p place c
  removes-take = record {
    size = length-map ts (option_map (node_in w)) ∙ r.size ∙ sym (length-map ss (option_map (node_in v)));
    parent = λ it h.
        let z = seen ss v p it h in
        let q : node_in v s ≡ it = ap (node_in v) (same_Some s z.slot_is (sym r.parent_was ∙ z.there)) ∙ z.same in
        shown ts w p less r.parent_is.1
        ∙ ap (λ y. Some (record { parent = option_map (λ k. k.parent) less.hook; depth = less.depth; content = less.content; children = y })) (ap numbers entries_less ∙ numbers_less)
        ∙ ap (λ (y : Slot). Some (record { parent = option_map (λ k. k.parent) y.hook; depth = y.depth; content = y.content; children = remove (numbers (entries v s.list)) place })) same_less
        ∙ ap (λ (y : Node). Some (record y { children = remove y.children place })) q;
    gone = node_is ts w c ∙ ap (option_map (node_in w)) r.gone;
    others = λ m n o. node_is ts w m ∙ ap (option_map (node_in w)) (r.others m n o) ∙ seen_same m n o (slot ss m) refl ∙ sym (node_is ss v m);
  }
