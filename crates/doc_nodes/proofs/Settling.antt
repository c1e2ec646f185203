-- New children of a node: their slots and its list, put one after the other from the last to the first.
use Rattle.std.proofs.Common.{◌≡◌, ◌≢◌, ◌⊎◌, ℕ, zero, suc, ◌+◌, ◌<◌, ◌^◌, List, [], ◌∷◌, length, map, set, get_or, add-one, sym, ap, ◌∙◌, subst, Option, Some, None, refl, inl, inr, arith, get_or-set_same, get_or-set_other, length-set}
use Rattle.std.specs.Option.{option_map}
use Rattle.std.proofs.lemmas.List.{length-map}
use Rattle.std.proofs.lemmas.Option.{same_Some, none-some}
use Rattle.child_trees.specs.Lists.{Entry, get, IsLive, AreEntries, Updates, items}
use Rattle.doc_nodes.specs.declared.content.NewNode.{NewNode}
use Rattle.doc_nodes.specs.declared.firsts.First.{First}
use Rattle.doc_nodes.specs.declared.families.Family.{Family}
use Rattle.doc_nodes.specs.declared.links.Hung.{Hung}
use Rattle.doc_nodes.specs.declared.slots.Slot.{Slot}
use Rattle.doc_nodes.specs.declared.slots.Hook.{Hook}
use Rattle.doc_nodes.specs.Firsts.{no_child, firsts_of}
use Rattle.doc_nodes.specs.Nodes.{Node, Nodes, node, IsNode, is_element, Has, Lacks, Distinct, Inserts, InsertsAll}
use Rattle.doc_nodes.specs.Slots.{slot, Writes}
use Rattle.doc_nodes.specs.Linked.{Orders, list_or, entries, numbers, node_in, nodes_of, IsHung, IsOwner, Hangs, IsLinked, Puts}
use Rattle.doc_nodes.specs.Families.{child_in, leaf_of, AreUnused, HangsAll, slot_of, new_slots, PutsSlots, Settles}
use Rattle.doc_nodes.proofs.Among.{same_or_other, has-map, lacks-has}
use Rattle.doc_nodes.proofs.Hanging.{as_many}
use Rattle.doc_nodes.proofs.Putting.{linked-put, inserts-put}
use Rattle.doc_nodes.proofs.Seen.{node_is, seen, linked_same, linked_lists, seen_same_lists}
use Rattle.doc_nodes.proofs.Unrolling.{used_lacks}

some_within : {A : Type 0} (xs : List (Option A)) (k : ℕ) (x : A) → get_or xs k None ≡ Some x → k < length xs
some_within [] zero x e = absurd (none-some x e)
some_within [] (suc k) x e = absurd (none-some x e)
some_within (y ∷ ys) zero x e = omega arith
some_within (y ∷ ys) (suc k) x e = let h = some_within ys k x e in omega (arith, h)

-- a node without children has no entries
pub no_entries : (v : Orders) (s : Slot) → numbers (entries v s.list) ≡ [] → entries v s.list ≡ []
no_entries v s e = by (entries v s.list) e
  where
    by : (es : List (Entry First)) → numbers es ≡ [] → es ≡ []
    by [] k = refl
    by (x ∷ xs) k = let l = ap length k in absurd (omega (arith, l))

-- one child more before the others
inserts_cons : (old mid new : Nodes) (p : ℕ) (cs : List NewNode) (c : NewNode) → InsertsAll old mid p cs → Inserts mid new p 0 c.number c.content → Lacks c.number (map (λ c. c.number) cs)
    → ((d : NewNode) → Has d cs → d.number ≢ p) → InsertsAll old new p (c ∷ cs)
inserts_cons old mid new p cs c a i lacks apart = record {
  size = i.size ∙ a.size;
  parent = λ it h. i.parent (record it { children = map (λ c. c.number) cs }) (a.parent it h);
  children = λ it d h k. elim k [
    | inl e ↦ subst (λ (z : NewNode). IsNode new z.number (record { parent = Some p; depth = it.depth + 1; content = z.content; children = [] })) e (i.child (record it { children = map (λ c. c.number) cs }) (a.parent it h))
    | inr z ↦ i.others d.number (apart d z) (lacks-has c.number d.number (map (λ c. c.number) cs) lacks (has-map (λ c. c.number) cs d z)) ∙ a.children it d h z
  ];
  others = λ m n l. i.others m n (λ e. l.0 (sym e)) ∙ a.others m n l.1;
}

module _ (ss : List (Option Slot)) (v w : Orders) (p : ℕ) (s : Slot) (q : ℕ) (i : IsLinked ss v) (there : slot ss p ≡ Some s) (empty : entries v s.list ≡ [])
    (all : List (Entry First)) (list_is : get w q ≡ Some all) (fresh : ¬ IsLive v q) (keeps : (r : ℕ) → IsLive v r → get w r ≡ get v r) where
  abbrev pub above : ℕ → Slot
  above n = record s { list = q; count = n }

  abbrev pub with_above : List (Option Slot) → ℕ → List (Option Slot)
  with_above ts n = set ts p (Some (above n))

  abbrev pub with_list : List (Entry First) → Orders
  with_list es = record w { lists = set w.lists q (Some es) }

  at_p : (ts : List (Option Slot)) (n : ℕ) → length ts ≡ length ss → slot (with_above ts n) p ≡ Some (above n)
  at_p ts n size = get_or-set_same ts p (Some (above n)) None (subst (λ k. p < k) (sym size) (some_within ss p s there))

  at_other : (ts : List (Option Slot)) (n m : ℕ) → m ≢ p → slot (with_above ts n) m ≡ slot ts m
  at_other ts n m d = get_or-set_other ts p m (Some (above n)) None d

  got_q : (es : List (Entry First)) → get (with_list es) q ≡ Some es
  got_q es = get_or-set_same w.lists q (Some es) None (some_within w.lists q all list_is)

  got_other : (es : List (Entry First)) (r : ℕ) → r ≢ q → get (with_list es) r ≡ get w r
  got_other es r d = get_or-set_other w.lists q r (Some es) None d

  -- the list of another node that was there is another one, and is as it was
  live_of : (m : ℕ) (t : Slot) → slot ss m ≡ Some t → IsLive v t.list
  live_of m t h = let o = i.owner m t h in (o.list, o.is)

  not_q : (r : ℕ) → IsLive v r → r ≢ q
  not_q r live e = fresh (live.0, ap (get v) (sym e) ∙ live.1)

  got_old : (es : List (Entry First)) (m : ℕ) (t : Slot) → slot ss m ≡ Some t → get (with_list es) t.list ≡ get v t.list
  got_old es m t h = got_other es t.list (not_q t.list (live_of m t h)) ∙ keeps t.list (live_of m t h)

  -- the slots at the beginning, where the parent has its new list
  record Begun (m : ℕ) (t : Slot) : Type 0 where
    was : Slot
    is : slot ss m ≡ Some was
    same : record was { list = t.list; count = t.count } ≡ t

  begun : (m : ℕ) (t : Slot) → slot (with_above ss 0) m ≡ Some t → Begun m t
  begun m t h = elim (same_or_other m p) [
    | inl k ↦ record {
      was = s;
      is = ap (slot ss) k ∙ there;
      same = (let e = same_Some (above 0) t (sym (at_p ss 0 refl) ∙ ap (slot (with_above ss 0)) (sym k) ∙ h) in
          ap (λ (x : Slot). record s { list = x.list; count = x.count }) (sym e) ∙ e);
    }
    | inr d ↦ record { was = t; is = sym (at_other ss 0 m d) ∙ h; same = refl }
  ]

  -- a slot of before is there, with the same parts but for its list
  record Still (m : ℕ) (t : Slot) : Type 0 where
    now : Slot
    is : slot (with_above ss 0) m ≡ Some now
    same : record t { list = now.list; count = now.count } ≡ now

  still : (m : ℕ) (t : Slot) → slot ss m ≡ Some t → Still m t
  still m t h = elim (same_or_other m p) [
    | inl k ↦ record { now = above 0; is = ap (slot (with_above ss 0)) k ∙ at_p ss 0 refl; same = ap (λ (x : Slot). record x { list = q; count = 0 }) (same_Some t s (sym h ∙ ap (slot ss) k ∙ there)) }
    | inr d ↦ record { now = t; is = at_other ss 0 m d ∙ h; same = refl }
  ]

  -- the parent's list is empty, as it was
  entries_begun : (m : ℕ) (t : Slot) (b : Begun m t) → slot (with_above ss 0) m ≡ Some t → entries (with_list []) t.list ≡ entries v b.was.list
  entries_begun m t b h = elim (same_or_other m p) [
    | inl k ↦
        let e = same_Some (above 0) t (sym (at_p ss 0 refl) ∙ ap (slot (with_above ss 0)) (sym k) ∙ h) in
        let o = same_Some s b.was (sym there ∙ ap (slot ss) (sym k) ∙ b.is) in
        ap (λ (x : Slot). entries (with_list []) x.list) (sym e) ∙ ap list_or (got_q []) ∙ sym empty ∙ ap (λ (x : Slot). entries v x.list) o
    | inr d ↦
        let o = same_Some t b.was (sym h ∙ at_other ss 0 m d ∙ b.is) in
        ap list_or (got_old [] m t (sym (at_other ss 0 m d) ∙ h)) ∙ ap (λ (x : Slot). entries v x.list) o
  ]

  moved_hung : (n : ℕ) (was t : Slot) (x : Entry First) → t.depth ≡ was.depth → IsHung ss n was x → IsHung (with_above ss 0) n t x
  moved_hung n was t x d h =
      let k = still h.number h.child h.is in
      record {
        number = h.number;
        child = k.now;
        is = k.is;
        act = subst (λ (y : Slot). x.act ≡ firsts_of (record { number = h.number; is_element = is_element y.content })) k.same h.act;
        element = subst (λ (y : Slot). x.element ≡ is_element y.content) k.same h.element;
        marked = subst (λ (y : Slot). x.marked ≡ is_element y.content) k.same h.marked;
        hook = subst (λ (y : Slot). y.hook ≡ Some (record { parent = n; item = x.item })) k.same h.hook;
        below = subst (λ (y : Slot). y.depth ≡ t.depth + 1) k.same (h.below ∙ ap (λ y. y + 1) (sym d));
      }

  moved_hangs : (m : ℕ) (h : Hook) → Hangs ss v m h → Hangs (with_above ss 0) (with_list []) m h
  moved_hangs m h u = elim (same_or_other h.parent p) [
    | inl k ↦ absurd (subst (Has u.entry) (ap (λ (x : Slot). entries v x.list) (same_Some u.parent s (sym u.is ∙ ap (slot ss) k ∙ there)) ∙ empty) u.has)
    | inr d ↦ record {
      parent = u.parent;
      is = at_other ss 0 h.parent d ∙ u.is;
      entry = u.entry;
      item = u.item;
      child = u.child;
      has = subst (λ o. Has u.entry (list_or o)) (sym (got_old [] h.parent u.parent u.is)) u.has;
    }
  ]

  moved_owner : (n : ℕ) (t : Slot) → slot (with_above ss 0) n ≡ Some t → IsOwner (with_list []) t
  moved_owner n t h = elim (same_or_other n p) [
    | inl k ↦ subst (IsOwner (with_list [])) (same_Some (above 0) t (sym (at_p ss 0 refl) ∙ ap (slot (with_above ss 0)) (sym k) ∙ h)) (record { list = []; is = got_q []; count = refl })
    | inr d ↦ let was = sym (at_other ss 0 n d) ∙ h in let o = i.owner n t was in record { list = o.list; is = got_old [] n t was ∙ o.is; count = o.count }
  ]

  -- whose list it is
  moved_list : (n : ℕ) (t : Slot) → slot (with_above ss 0) n ≡ Some t → ((n ≡ p) × (t.list ≡ q)) ⊎ ((n ≢ p) × (slot ss n ≡ Some t))
  moved_list n t h = elim (same_or_other n p) [
    | inl k ↦ inl (k, ap (λ (x : Slot). x.list) (same_Some t (above 0) (sym h ∙ ap (slot (with_above ss 0)) k ∙ at_p ss 0 refl)))
    | inr d ↦ inr (d, sym (at_other ss 0 n d) ∙ h)
  ]

  moved_apart : (n m : ℕ) (t u : Slot) → slot (with_above ss 0) n ≡ Some t → slot (with_above ss 0) m ≡ Some u → t.list ≡ u.list → n ≡ m
  moved_apart n m t u h k e = elim (moved_list n t h) [
    | inl a ↦ elim (moved_list m u k) [
      | inl b ↦ a.0 ∙ sym b.0
      | inr b ↦ absurd (not_q u.list (live_of m u b.1) (sym e ∙ a.1))
    ]
    | inr a ↦ elim (moved_list m u k) [
      | inl b ↦ absurd (not_q t.list (live_of n t a.1) (e ∙ b.1))
      | inr b ↦ i.apart n m t u a.1 b.1 e
    ]
  ]

  moved : IsLinked (with_above ss 0) (with_list [])
  moved = record {
    own = λ n t h. let b = begun n t h in sym (ap (λ (x : Slot). x.number) b.same) ∙ i.own n b.was b.is;
    owner = moved_owner;
    apart = moved_apart;
    down = λ n t x h k.
        let b = begun n t h in
        moved_hung n b.was t x (sym (ap (λ (y : Slot). y.depth) b.same)) (i.down n b.was x b.is (subst (Has x) (entries_begun n t b h) k));
    up = λ m t h a b.
        let z = begun m t a in
        moved_hangs m h (i.up m z.was h z.is (ap (λ (y : Slot). y.hook) z.same ∙ b));
    once = λ n t h. let b = begun n t h in subst (λ l. Distinct (numbers l)) (sym (entries_begun n t b h)) (i.once n b.was b.is);
    few = subst (λ n. n < 2 ^ 32) (sym (length-set ss p (Some (above 0)))) i.few;
  }

  -- a slot but the parent's has a list of before, which is not the parent's, or that of a new child
  abbrev pub OtherList : Slot → List Hung → Type 0
  OtherList t hs = (IsLive v t.list × (t.list ≢ s.list)) ⊎ Has t.list (map (λ h. h.list) hs)

  -- some of the children were put, the last ones
  pub record Stage (ts : List (Option Slot)) (cs : List NewNode) (hs : List Hung) (es : List (Entry First)) : Type 0 where
    pub size : length ts ≡ length ss
    pub linked : IsLinked (with_above ts (length es)) (with_list es)
    pub inserts : InsertsAll (nodes_of ss v) (nodes_of (with_above ts (length es)) (with_list es)) p cs
    pub owners : (m : ℕ) (t : Slot) → m ≢ p → slot ts m ≡ Some t → OtherList t hs
    pub same : (m : ℕ) → Lacks m (map (λ c. c.number) cs) → slot ts m ≡ slot ss m

  seen_begun : (m : ℕ) → node (nodes_of (with_above ss 0) (with_list [])) m ≡ node (nodes_of ss v) m
  seen_begun m = node_is (with_above ss 0) (with_list []) m ∙ by (slot (with_above ss 0) m) refl (slot ss m) refl ∙ sym (node_is ss v m)
    where
      by : (a : Option Slot) → slot (with_above ss 0) m ≡ a → (b : Option Slot) → slot ss m ≡ b → option_map (node_in (with_list [])) a ≡ option_map (node_in v) b
      by None h None k = refl
      by None h (Some t) k = let z = still m t k in absurd (none-some z.now (sym h ∙ z.is))
      by (Some t) h None k = let z = begun m t h in absurd (none-some z.was (sym k ∙ z.is))
      by (Some t) h (Some u) k =
          let z = begun m t h in
          let same : z.was ≡ u = same_Some z.was u (sym z.is ∙ k) in
          ap (λ (x : Slot). Some (record { parent = option_map (λ y. y.parent) x.hook; depth = x.depth; content = x.content; children = numbers (entries (with_list []) t.list) })) (sym z.same)
          ∙ ap (λ l. Some (record { parent = option_map (λ y. y.parent) z.was.hook; depth = z.was.depth; content = z.was.content; children = numbers l })) (entries_begun m t z h)
          ∙ ap (λ (x : Slot). Some (node_in v x)) same

  first_stage : Stage ss [] [] []
  first_stage = record {
    size = refl;
    linked = moved;
    inserts = record {
      size = length-map (with_above ss 0) (option_map (node_in (with_list []))) ∙ length-set ss p (Some (above 0)) ∙ sym (length-map ss (option_map (node_in v)));
      parent = λ it h.
          let z = seen ss v p it h in
          let leaf : it.children ≡ [] = sym (ap (λ (x : Node). x.children) z.same) ∙ ap (λ (x : Slot). numbers (entries v x.list)) (same_Some z.slot_is s (sym z.there ∙ there)) ∙ ap numbers empty in
          seen_begun p ∙ h ∙ ap (λ l. Some (record it { children = l })) leaf;
      children = λ it c h k. absurd k;
      others = λ m n l. seen_begun m;
    };
    owners = λ m t d h. inl (live_of m t h, λ e. d (i.apart m p t s h there e));
    same = λ m l. refl;
  }

  module _ (ts new : List (Option Slot)) (cs : List NewNode) (hs : List Hung) (es : List (Entry First)) (c : NewNode) (h : Hung) (e : Entry First) (st : Stage ts cs hs es)
      (write : Writes ts new c.number (Some (slot_of p (s.depth + 1) c h))) (item_is : h.item ≡ e.item)
      (act : e.act ≡ firsts_of (child_in c)) (element : e.element ≡ is_element c.content) (marked : e.marked ≡ is_element c.content)
      (own_empty : get w h.list ≡ Some []) (own_fresh : ¬ IsLive v h.list) (own_other : h.list ≢ q)
      (lists_lack : Lacks h.list (map (λ h. h.list) hs)) (unused : slot ss c.number ≡ None) (lacks : Lacks c.number (map (λ c. c.number) cs)) (apart : (d : NewNode) → Has d cs → d.number ≢ p) where
    c_not_p : c.number ≢ p
    c_not_p k = none-some s (sym unused ∙ ap (slot ss) k ∙ there)

    -- no slot has the new child's list
    list_free : (m : ℕ) (t : Slot) → slot (with_above ts (length es)) m ≡ Some t → t.list ≢ h.list
    list_free m t k j = elim (same_or_other m p) [
      | inl a ↦ own_other (sym j ∙ ap (λ (x : Slot). x.list) (same_Some t (above (length es)) (sym k ∙ ap (slot (with_above ts (length es))) a ∙ at_p ts (length es) st.size)))
      | inr a ↦ elim (st.owners m t a (sym (at_other ts (length es) m a) ∙ k)) [
        | inl z ↦ own_fresh (z.0.0, ap (get v) (sym j) ∙ z.0.1)
        | inr z ↦ lacks-has h.list t.list (map (λ h. h.list) hs) lists_lack z j
      ]
    ]

    put_one : Puts (with_above ts (length es)) (with_list es) (with_above new (length (e ∷ es))) (with_list (e ∷ es)) p (above (length es)) 0 c.number (slot_of p (s.depth + 1) c h) e
    put_one = record {
      size = length-set new p (Some (above (length (e ∷ es)))) ∙ write.size ∙ sym (length-set ts p (Some (above (length es))));
      parent_was = at_p ts (length es) st.size;
      parent_is = at_p new (length (e ∷ es)) (write.size ∙ st.size) ∙ ap (λ n. Some (above n)) (sym (add-one (length es)));
      free = at_other ts (length es) c.number c_not_p ∙ st.same c.number lacks ∙ unused;
      here = at_other new (length (e ∷ es)) c.number c_not_p ∙ write.changed;
      others = λ m a b. at_other new (length (e ∷ es)) m a ∙ write.others m b ∙ sym (at_other ts (length es) m a);
      fresh = list_free;
      empty = got_other (e ∷ es) h.list own_other ∙ own_empty;
      edited = got_q (e ∷ es) ∙ ap (λ o. Some (e ∷ list_or o)) (sym (got_q es));
      rest = λ r a b. got_other (e ∷ es) r a ∙ sym (got_other es r a);
      within = omega arith;
      number = refl;
      hook = ap (λ k. Some (record { parent = p; item = k })) item_is;
      below = refl;
      no_children = refl;
      act = act;
      element = element;
      marked = marked;
    }

    next_stage : Stage new (c ∷ cs) (h ∷ hs) (e ∷ es)
    next_stage = record {
      size = write.size ∙ st.size;
      linked = linked-put (with_above ts (length es)) (with_list es) (with_above new (length (e ∷ es))) (with_list (e ∷ es)) p (above (length es)) 0 c.number (slot_of p (s.depth + 1) c h) e st.linked put_one;
      inserts = inserts_cons (nodes_of ss v) (nodes_of (with_above ts (length es)) (with_list es)) (nodes_of (with_above new (length (e ∷ es))) (with_list (e ∷ es))) p cs c st.inserts
          (inserts-put (with_above ts (length es)) (with_list es) (with_above new (length (e ∷ es))) (with_list (e ∷ es)) p (above (length es)) 0 c.number (slot_of p (s.depth + 1) c h) e st.linked put_one)
          lacks apart;
      owners = λ m t d k. elim (same_or_other m c.number) [
        | inl a ↦ inr (inl (ap (λ (x : Slot). x.list) (same_Some (slot_of p (s.depth + 1) c h) t (sym write.changed ∙ ap (slot new) (sym a) ∙ k))))
        | inr a ↦ elim (st.owners m t d (sym (write.others m a) ∙ k)) [ inl z ↦ inl z | inr z ↦ inr (inr z) ]
      ];
      same = λ m l. write.others m (λ j. l.0 (sym j)) ∙ st.same m l.1;
    }

  -- they were all put
  stage : (cs : List NewNode) (hs : List Hung) (es : List (Entry First)) → AreEntries no_child firsts_of (map leaf_of cs) es → map (λ h. h.item) hs ≡ items es
      → ((h : Hung) → Has h hs → (get w h.list ≡ Some []) × ¬ IsLive v h.list × (h.list ≢ q)) → Distinct (map (λ h. h.list) hs) → AreUnused ss cs → Distinct (map (λ c. c.number) cs)
      → (ts : List (Option Slot)) → PutsSlots ss ts (new_slots p (s.depth + 1) cs hs) → Stage ts cs hs es
  stage [] [] [] are same own apart unused distinct ts puts = subst (λ x. Stage x [] [] []) (sym puts) first_stage
  stage [] (h ∷ hs) [] are same own apart unused distinct ts puts = let l = ap length same in absurd (omega (arith, l))
  stage [] hs (e ∷ es) are same own apart unused distinct ts puts = absurd are
  stage (c ∷ cs) hs [] are same own apart unused distinct ts puts = absurd are
  stage (c ∷ cs) [] (e ∷ es) are same own apart unused distinct ts puts = let l = ap length same in absurd (omega (arith, l))
  stage (c ∷ cs) (h ∷ hs) (e ∷ es) are same own apart unused distinct ts puts =
      let o = own h (inl refl) in
      next_stage puts.0 ts cs hs es c h e
      (stage cs hs es are.1 (cc same) (λ x k. own x (inr k)) apart.1 (λ d k. unused d (inr k)) distinct.1 puts.0 puts.1)
      puts.2 (cc same) (ap (λ (x : Entry First). x.act) are.0) (ap (λ (x : Entry First). x.element) are.0) (ap (λ (x : Entry First). x.marked) are.0)
      o.0 o.1 o.2 apart.0 (unused c (inl refl)).0 distinct.0 (λ d k j. none-some s (sym (unused d (inr k)).0 ∙ ap (slot ss) j ∙ there))

  -- the parent got its list, and the list that it had is gone
  module _ (mid new : List (Option Slot)) (x : Orders) (cs : List NewNode) (hs : List Hung) (st : Stage mid cs hs all) (own : (h : Hung) → Has h hs → ¬ IsLive v h.list × (h.list ≢ q))
      (write : Writes mid new p (Some (above (length all)))) (drops : Updates w x s.list None) where
    as_staged : (m : ℕ) → slot new m ≡ slot (with_above mid (length all)) m
    as_staged m = elim (same_or_other m p) [
      | inl k ↦ ap (slot new) k ∙ write.changed ∙ sym (at_p mid (length all) st.size) ∙ ap (slot (with_above mid (length all))) (sym k)
      | inr d ↦ write.others m d ∙ sym (at_other mid (length all) m d)
    ]

    list_of_hung : (hs : List Hung) (r : ℕ) → Has r (map (λ h. h.list) hs) → ((h : Hung) → Has h hs → ¬ IsLive v h.list × (h.list ≢ q)) → ¬ IsLive v r × (r ≢ q)
    list_of_hung [] r k o = absurd k
    list_of_hung (h ∷ more) r k o = elim k [
      | inl e ↦ subst (λ z. ¬ IsLive v z × (z ≢ q)) e (o h (inl refl))
      | inr z ↦ list_of_hung more r z (λ y j. o y (inr j))
    ]

    lists_same : (m : ℕ) (t : Slot) → slot new m ≡ Some t → get x t.list ≡ get (with_list all) t.list
    lists_same m t k = elim (same_or_other m p) [
      | inl a ↦
          let e : t.list ≡ q = ap (λ (y : Slot). y.list) (same_Some t (above (length all)) (sym k ∙ ap (slot new) a ∙ write.changed)) in
          ap (get x) e ∙ drops.others q (λ j. not_q s.list (live_of p s there) (sym j)) ∙ list_is ∙ sym (got_q all) ∙ ap (get (with_list all)) (sym e)
      | inr d ↦ elim (st.owners m t d (sym (write.others m d) ∙ k)) [
        | inl z ↦ drops.others t.list z.1 ∙ sym (got_other all t.list (not_q t.list z.0))
        | inr z ↦
            let o = list_of_hung hs t.list z own in let live = live_of p s there in
            drops.others t.list (λ j. o.0 (live.0, ap (get v) j ∙ live.1)) ∙ sym (got_other all t.list o.1)
      ]
    ]

    settled_few : length new < 2 ^ 32
    settled_few = subst (λ n. n < 2 ^ 32) (sym (write.size ∙ st.size)) i.few

    pub settled_linked : IsLinked new x
    settled_linked = linked_lists new (with_list all) x lists_same (linked_same (with_above mid (length all)) new (with_list all) as_staged settled_few st.linked)

    settled_seen : (m : ℕ) → node (nodes_of new x) m ≡ node (nodes_of (with_above mid (length all)) (with_list all)) m
    settled_seen m =
        ap (λ ns. node ns m) (seen_same_lists new (with_list all) x lists_same) ∙ node_is new (with_list all) m ∙ ap (option_map (node_in (with_list all))) (as_staged m)
        ∙ sym (node_is (with_above mid (length all)) (with_list all) m)

    pub settled_inserts : InsertsAll (nodes_of ss v) (nodes_of new x) p cs
    settled_inserts = record {
      size = length-map new (option_map (node_in x)) ∙ write.size ∙ st.size ∙ sym (length-map ss (option_map (node_in v)));
      parent = λ it h. settled_seen p ∙ st.inserts.parent it h;
      children = λ it c h k. settled_seen c.number ∙ st.inserts.children it c h k;
      others = λ m n l. settled_seen m ∙ st.inserts.others m n l;
    }

-- new children that were put
module _ (ss ts : List (Option Slot)) (v w x : Orders) (p : ℕ) (s : Slot) (cs : List NewNode) (f : Family) (i : IsLinked ss v) (there : slot ss p ≡ Some s) (empty : entries v s.list ≡ [])
    (hangs : HangsAll v w cs f) (unused : AreUnused ss cs) (distinct : Distinct (map (λ c. c.number) cs)) (z : Settles ss ts w x p s cs f) where
  many : length cs ≡ length hangs.list
  many = sym (as_many cs hangs.list hangs.are)

  staged : Stage ss v w p s f.list i there empty hangs.list hangs.is hangs.fresh hangs.keeps z.mid cs f.hung.items hangs.list
  staged = stage ss v w p s f.list i there empty hangs.list hangs.is hangs.fresh hangs.keeps cs f.hung.items hangs.list hangs.are hangs.items_are hangs.own hangs.apart unused distinct z.mid z.puts

  parent_written : Writes z.mid ts p (Some (record s { list = f.list; count = length hangs.list }))
  parent_written = subst (λ n. Writes z.mid ts p (Some (record s { list = f.list; count = n }))) many (z.parent s ((staged).same p (used_lacks ss cs p s unused there) ∙ there))

  pub family_linked : IsLinked ts x
  family_linked =
      settled_linked ss v w p s f.list i there empty hangs.list hangs.is hangs.fresh hangs.keeps z.mid ts x cs f.hung.items staged (λ h k. let o = hangs.own h k in (o.1, o.2)) parent_written z.drops

  pub family_inserts : InsertsAll (nodes_of ss v) (nodes_of ts x) p cs
  family_inserts =
      settled_inserts ss v w p s f.list i there empty hangs.list hangs.is hangs.fresh hangs.keeps z.mid ts x cs f.hung.items staged (λ h k. let o = hangs.own h k in (o.1, o.2)) parent_written z.drops
