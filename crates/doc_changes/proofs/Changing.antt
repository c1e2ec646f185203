-- What nodes stand for once a node of the document was changed or taken away.
use Rattle.std.proofs.Common.{◌≡◌, ◌≢◌, ◌⊎◌, ℕ, zero, suc, ◌+◌, ◌≤◌, List, [], ◌∷◌, ◌++◌, length, remove, sym, ap, ◌∙◌, subst, Bool, true, false, ◌==◌, ◌||◌, if◌then◌else◌, Option, Some, None, refl, inl, inr, arith}
use Rattle.std.specs.Prelude.{slice_get}
use Rattle.std.specs.Option.{option_map, option_and_then}
use Rattle.std.proofs.lemmas.Bool.{or_left, or_right, eqb-true, eq-eqb, ne_eqb, true≢false, false_from_ne_true}
use Rattle.std.proofs.lemmas.Option.{same_Some, none-some}
use Rattle.xs_names.specs.Names.{NameTable}
use Rattle.tree_rows.specs.Forest.{Forest, none, text, element, Document, count, deepest_of}
use Rattle.tree_rows.specs.Whole.{times, HasRoot, IsTree}
use Rattle.tree_edits.specs.Edits.{has, Found, found, replaced, is_root}
use Rattle.tree_edits.proofs.Lying.{Lies, lies, times_changed, count_changed, deepest_here}
use Rattle.tree_edits.proofs.Keeping.{changed_tree}
use Rattle.doc_nodes.specs.Nodes.{Node, Nodes, node, IsNode, IsSound, IsChildAt, Has, Lacks, Distinct}
use Rattle.doc_changes.specs.Stands.{firsts, StandFor, StandsFor}
use Rattle.doc_changes.specs.Parts.{IsOver, Prunes}
use Rattle.doc_changes.proofs.Standing.{here, stand_same, stand_append, firsts_append, has_times, no_times, absent_times, present_times, if_one, if_none}
use Rattle.doc_changes.proofs.Lain.{IsApart, at, apart, depth_at, times_at}

pub not_key : (key : ℕ) (g : Forest) → times key g ≡ 0 → (m : ℕ) → has m g ≡ true → m ≢ key
not_key key g e m h k = let a = has_times m g h in let b = ap (λ j. times j g) k in absurd (omega (arith, a, b, e))

module _ (t : NameTable) (old new : Nodes) (key : ℕ) (change : Forest → Forest) where
  pub stand_changed : (depth : ℕ) (f : Forest) (it : Found) → Lies key depth f it → StandFor t old f → times key f ≤ 1
      → ((m : ℕ) → has m f ≡ true → m ≢ key → node new m ≡ node old m) → StandFor t new (change it.node) → firsts (change it.node) ≡ key ∷ []
      → StandFor t new (replaced key change f) × (firsts (replaced key change f) ≡ firsts f)
  stand_changed depth none it l s o h c e = absurd l
  stand_changed depth (text n chars next) it (inl l) s o h c e =
      let own = if_one (n == key) l.0 in
      let gone : times key next ≡ 0 = omega (arith, own, o) in
      let same : change it.node ≡ change (text n chars none) = ap (λ (i : Found). change i.node) l.1 in
      rw (l.0) (
        stand_append t new (change (text n chars none)) next (subst (StandFor t new) same c) (stand_same t old new next (λ m k. h m (or_right (n == m) (has m next) k) (not_key key next gone m k)) s.1),
        firsts_append (change (text n chars none)) next ∙ ap (λ g. g ++ firsts next) (sym (ap firsts same) ∙ e) ∙ ap (λ x. x ∷ firsts next) (sym (eqb-true n key l.0)),
      )
  stand_changed depth (text n chars next) it (inr l) s o h c e =
      let r = stand_changed depth next it l.1 s.1 (omega (arith, o)) (λ m k. h m (or_right (n == m) (has m next) k)) c e in
      let apart : n ≢ key = λ k. true≢false (sym (eq-eqb n key k) ∙ l.0) in
      rw (l.0) ((record { text = s.0.text; is = h n (here n (has n next)) apart ∙ s.0.is; content = s.0.content; no_children = s.0.no_children }, r.0), ap (λ g. n ∷ g) r.1)
  stand_changed depth (element n name bindings attributes children next) it (inl l) s o h c e =
      let own = if_one (n == key) l.0 in
      let gone : times key next ≡ 0 = omega (arith, own, o) in
      let same : change it.node ≡ change (element n name bindings attributes children none) = ap (λ (i : Found). change i.node) l.1 in
      rw (l.0) (
        stand_append t new (change (element n name bindings attributes children none)) next (subst (StandFor t new) same c)
            (stand_same t old new next (λ m k. h m (or_right (n == m) (has m children || has m next) (or_right (has m children) (has m next) k)) (not_key key next gone m k)) s.2),
        firsts_append (change (element n name bindings attributes children none)) next ∙ ap (λ g. g ++ firsts next) (sym (ap firsts same) ∙ e) ∙ ap (λ x. x ∷ firsts next) (sym (eqb-true n key l.0)),
      )
  stand_changed depth (element n name bindings attributes children next) it (inr (inl l)) s o h c e =
      let some = has_times key children l.1 in
      let gone : times key next ≡ 0 = omega (arith, some, o) in
      let r = stand_changed (depth + 1) children it l.2 s.1 (omega (arith, o)) (λ m k. h m (or_right (n == m) (has m children || has m next) (or_left (has m children) (has m next) k))) c e in
      let apart : n ≢ key = λ k. true≢false (sym (eq-eqb n key k) ∙ l.0) in
      let p = s.0 in
      rw (l.0, l.1) (
        (
          record { it = p.it; is = h n (here n (has n children || has n next)) apart ∙ p.is; parts = p.parts; content = p.content; known = p.known; name_is = p.name_is; bindings_are = p.bindings_are; attributes_are = p.attributes_are; children_are = p.children_are ∙ sym r.1 },
          r.0,
          stand_same t old new next (λ m k. h m (or_right (n == m) (has m children || has m next) (or_right (has m children) (has m next) k)) (not_key key next gone m k)) s.2,
        ),
        refl,
      )
  stand_changed depth (element n name bindings attributes children next) it (inr (inr l)) s o h c e =
      let gone : times key children ≡ 0 = no_times key children l.1 in
      let r = stand_changed depth next it l.2 s.2 (omega (arith, o)) (λ m k. h m (or_right (n == m) (has m children || has m next) (or_right (has m children) (has m next) k))) c e in
      let apart : n ≢ key = λ k. true≢false (sym (eq-eqb n key k) ∙ l.0) in
      let p = s.0 in
      rw (l.0, l.1) (
        (
          record { it = p.it; is = h n (here n (has n children || has n next)) apart ∙ p.is; parts = p.parts; content = p.content; known = p.known; name_is = p.name_is; bindings_are = p.bindings_are; attributes_are = p.attributes_are; children_are = p.children_are },
          stand_same t old new children (λ m k. h m (or_right (n == m) (has m children || has m next) (or_left (has m children) (has m next) k)) (not_key key children gone m k)) s.1,
          r.0,
        ),
        ap (λ g. n ∷ g) r.1,
      )

root_has : (f : Forest) → HasRoot f → has 1 f ≡ true
root_has none r = absurd r
root_has (text n chars next) r = absurd r
root_has (element n name bindings attributes children next) r = or_left (n == 1) (has 1 children || has 1 next) (eq-eqb n 1 r.0)

-- the nodes stand for the changed document
pub stands_changed : (t : NameTable) (old new : Nodes) (d : Document) (key free : ℕ) (change : Forest → Forest) (it : Found) → StandsFor t old d → IsSound new
    → found key 1 d.forest ≡ Some it → IsTree (record { forest = replaced key change d.forest; next_free = free })
    → ((m : ℕ) → has m d.forest ≡ true → m ≢ key → node new m ≡ node old m)
    → ((x : Node) → IsNode new key x → (y : Node) × IsNode old key y × (x.parent ≡ y.parent) × (x.depth ≡ y.depth))
    → StandFor t new (change it.node) → firsts (change it.node) ≡ key ∷ []
    → ((m : ℕ) (x : Node) → IsNode new m x → has m (replaced key change d.forest) ≡ true) → length new ≡ free
    → StandsFor t new (record { forest = replaced key change d.forest; next_free = free })
stands_changed t old new d key free change it z sound e tree same kept stand head only size = record {
  table = z.table;
  links = sound;
  tree = tree;
  nodes = (stand_changed t old new key change 1 d.forest it (lies key 1 d.forest it e) z.nodes (z.tree.differ key) same stand head).0;
  root = root_by (1 == key) refl;
  only = only;
  next = size;
}
  where
    root_by : (b : Bool) → (1 == key) ≡ b → (x : Node) → IsNode new 1 x → (x.parent ≡ None) × (x.depth ≡ 1)
    root_by true q x i =
        let k : 1 ≡ key = eqb-true 1 key q in
        let y = kept x (ap (node new) (sym k) ∙ i) in
        let r = z.root y.0 (ap (node old) k ∙ y.1) in
        (y.2 ∙ r.0, y.3 ∙ r.1)
    root_by false q x i = z.root x (sym (same 1 (root_has d.forest z.tree.root) (λ k. true≢false (sym (eq-eqb 1 key k) ∙ q))) ∙ i)

-- a number that is still there
pub still_there : (d : Document) (key m : ℕ) (change : Forest → Forest) (it : Found) → found key 1 d.forest ≡ Some it → times m it.node ≤ times m (change it.node)
    → has m d.forest ≡ true → has m (replaced key change d.forest) ≡ true
still_there d key m change it e le h =
    let a = times_changed m key 1 change d.forest it (lies key 1 d.forest it e) in let b = has_times m d.forest h in
    present_times m (replaced key change d.forest) (omega (arith, a, b, le))

-- the numbers without one
abbrev pub without : ℕ → List ℕ → List ℕ
without key [] = []
without key (c ∷ cs) = if c == key then cs else c ∷ without key cs

abbrev pub childless : ℕ → Node → Node
childless key x = record x { children = without key x.children }

without_absent : (key : ℕ) (f : Forest) → times key f ≡ 0 → without key (firsts f) ≡ firsts f
without_absent key none e = refl
without_absent key (text n chars next) e =
    let own : (n == key) ≡ false = ne_eqb n key (λ k. let a = if_one (n == key) (eq-eqb n key k) in absurd (omega (arith, a, e))) in
    rw own (ap (λ g. n ∷ g) (without_absent key next (omega (arith, e))))
without_absent key (element n name bindings attributes children next) e =
    let own : (n == key) ≡ false = ne_eqb n key (λ k. let a = if_one (n == key) (eq-eqb n key k) in absurd (omega (arith, a, e))) in
    rw own (ap (λ g. n ∷ g) (without_absent key next (omega (arith, e))))

module _ (t : NameTable) (old new : Nodes) (key : ℕ) where
  stand_without : (f : Forest) → times key f ≡ 0 → StandFor t old f → ((m : ℕ) → has m f ≡ true → node new m ≡ option_map (childless key) (node old m)) → StandFor t new f
  stand_without none e s h = tt
  stand_without (text n chars next) e s h = (
    record { text = childless key s.0.text; is = h n (here n (has n next)) ∙ ap (option_map (childless key)) s.0.is; content = s.0.content; no_children = ap (without key) s.0.no_children },
    stand_without next (omega (arith, e)) s.1 (λ m k. h m (or_right (n == m) (has m next) k)),
  )
  stand_without (element n name bindings attributes children next) e s h = (
    record {
      it = childless key s.0.it;
      is = h n (here n (has n children || has n next)) ∙ ap (option_map (childless key)) s.0.is;
      parts = s.0.parts;
      content = s.0.content;
      known = s.0.known;
      name_is = s.0.name_is;
      bindings_are = s.0.bindings_are;
      attributes_are = s.0.attributes_are;
      children_are = ap (without key) s.0.children_are ∙ without_absent key children (omega (arith, e));
    },
    stand_without children (omega (arith, e)) s.1 (λ m k. h m (or_right (n == m) (has m children || has m next) (or_left (has m children) (has m next) k))),
    stand_without next (omega (arith, e)) s.2 (λ m k. h m (or_right (n == m) (has m children || has m next) (or_right (has m children) (has m next) k))),
  )

  pub stand_removed : (depth : ℕ) (f : Forest) (it : Found) → Lies key depth f it → StandFor t old f → times key f ≤ 1
      → ((m : ℕ) → has m (replaced key (λ node. none) f) ≡ true → node new m ≡ option_map (childless key) (node old m))
      → StandFor t new (replaced key (λ node. none) f) × (firsts (replaced key (λ node. none) f) ≡ without key (firsts f))
  stand_removed depth none it l s o h = absurd l
  stand_removed depth (text n chars next) it (inl l) s o h =
      let own = if_one (n == key) l.0 in
      let gone : times key next ≡ 0 = omega (arith, own, o) in
      let g = rw (l.0) at h in
      rw (l.0) (stand_without next gone s.1 g, refl)
  stand_removed depth (text n chars next) it (inr l) s o h =
      let g = rw (l.0) at h in
      let r = stand_removed depth next it l.1 s.1 (omega (arith, o)) (λ m k. g m (or_right (n == m) (has m (replaced key (λ node. none) next)) k)) in
      rw (l.0) (
        (
          record { text = childless key s.0.text; is = g n (here n (has n (replaced key (λ node. none) next))) ∙ ap (option_map (childless key)) s.0.is; content = s.0.content; no_children = ap (without key) s.0.no_children },
          r.0,
        ),
        ap (λ x. n ∷ x) r.1,
      )
  stand_removed depth (element n name bindings attributes children next) it (inl l) s o h =
      let own = if_one (n == key) l.0 in
      let gone : times key next ≡ 0 = omega (arith, own, o) in
      let g = rw (l.0) at h in
      rw (l.0) (stand_without next gone s.2 g, refl)
  stand_removed depth (element n name bindings attributes children next) it (inr (inl l)) s o h =
      let some = has_times key children l.1 in
      let gone : times key next ≡ 0 = omega (arith, some, o) in
      let g = rw (l.0, l.1) at h in
      let more = replaced key (λ node. none) children in
      let r = stand_removed (depth + 1) children it l.2 s.1 (omega (arith, o)) (λ m k. g m (or_right (n == m) (has m more || has m next) (or_left (has m more) (has m next) k))) in
      rw (l.0, l.1) (
        (
          record {
            it = childless key s.0.it;
            is = g n (here n (has n more || has n next)) ∙ ap (option_map (childless key)) s.0.is;
            parts = s.0.parts;
            content = s.0.content;
            known = s.0.known;
            name_is = s.0.name_is;
            bindings_are = s.0.bindings_are;
            attributes_are = s.0.attributes_are;
            children_are = ap (without key) s.0.children_are ∙ sym r.1;
          },
          r.0,
          stand_without next gone s.2 (λ m k. g m (or_right (n == m) (has m more || has m next) (or_right (has m more) (has m next) k))),
        ),
        ap (λ x. n ∷ x) (sym (without_absent key next gone)),
      )
  stand_removed depth (element n name bindings attributes children next) it (inr (inr l)) s o h =
      let gone : times key children ≡ 0 = no_times key children l.1 in
      let g = rw (l.0, l.1) at h in
      let more = replaced key (λ node. none) next in
      let r = stand_removed depth next it l.2 s.2 (omega (arith, o)) (λ m k. g m (or_right (n == m) (has m children || has m more) (or_right (has m children) (has m more) k))) in
      rw (l.0, l.1) (
        (
          record {
            it = childless key s.0.it;
            is = g n (here n (has n children || has n more)) ∙ ap (option_map (childless key)) s.0.is;
            parts = s.0.parts;
            content = s.0.content;
            known = s.0.known;
            name_is = s.0.name_is;
            bindings_are = s.0.bindings_are;
            attributes_are = s.0.attributes_are;
            children_are = ap (without key) s.0.children_are ∙ without_absent key children gone;
          },
          stand_without children gone s.1 (λ m k. g m (or_right (n == m) (has m children || has m more) (or_left (has m children) (has m more) k))),
          r.0,
        ),
        ap (λ x. n ∷ x) r.1,
      )

lacks_at : (x key : ℕ) (xs : List ℕ) (i : ℕ) → Lacks x xs → slice_get xs i ≡ Some key → key ≢ x
lacks_at x key [] i l e k = absurd (none-some key e)
lacks_at x key (c ∷ cs) zero l e k = l.0 (same_Some c key e ∙ k)
lacks_at x key (c ∷ cs) (suc i) l e k = lacks_at x key cs i l.1 e k

remove_without : (xs : List ℕ) (i key : ℕ) → slice_get xs i ≡ Some key → Distinct xs → remove xs i ≡ without key xs
remove_without [] i key e u = absurd (none-some key e)
remove_without (x ∷ xs) zero key e u = rw (eq-eqb x key (same_Some x key e)) refl
remove_without (x ∷ xs) (suc i) key e u =
    let own : (x == key) ≡ false = ne_eqb x key (λ k. lacks_at x key xs i u.0 e (sym k)) in
    rw own (ap (λ g. x ∷ g) (remove_without xs i key e u.1))

without_lacks : (key : ℕ) (xs : List ℕ) → (Has key xs → ⊥) → without key xs ≡ xs
without_lacks key [] h = refl
without_lacks key (x ∷ xs) h =
    let own : (x == key) ≡ false = ne_eqb x key (λ k. h (inl k)) in
    rw own (ap (λ g. x ∷ g) (without_lacks key xs (λ k. h (inr k))))

-- a node was taken away, with what was below it
module _ (t : NameTable) (old new : Nodes) (d : Document) (z : StandsFor t old d) (key : ℕ) (x : Node) (there : IsNode old key x) where
  abbrev it : Found
  it = (at t old d z key x there).0

  abbrev found_it : found key 1 d.forest ≡ Some it
  found_it = (at t old d z key x there).1

  abbrev own : IsApart t old it.depth key it.node
  own = apart t old d z key x there

  abbrev pub own_below : Forest
  own_below = own.below

  sizes : count it.node ≤ count d.forest
  sizes = let a = count_changed key 1 (λ node. none) d.forest it (lies key 1 d.forest it found_it) in omega (arith, a)

  once : times key own.below ≡ 0
  once =
      let a = own.times_are key in let b = times_at t old d z key x there key in let c = z.tree.differ key in
      let e : ◌≡◌ {A = ℕ} (if key == key then 1 else 0) 1 = ap (λ b. if b then 1 else 0) (eq-eqb key key refl) in
      omega (arith, a, b, c, e)

  deep_at : own.it.depth ≡ it.depth
  deep_at = ap (λ (y : Node). y.depth) (same_Some own.it x (sym own.is ∙ there)) ∙ depth_at t old d z key x there

  pub is_over : IsOver t old key own.below
  is_over = record {
    it = own.it;
    is = own.is;
    children = own.children;
    stand = own.stand;
    differ = λ m. let a = own.times_are m in let b = times_at t old d z key x there m in let c = z.tree.differ m in omega (arith, a, b, c);
    outside = absent_times key own.below once;
    high = high_by own.high;
    shallow = (let a = own.deep in let b = deepest_here key 1 d.forest it (lies key 1 d.forest it found_it) in let c = z.tree.shallow in let e = ap (λ k. deepest_of (k + 1) own.below) deep_at in omega (arith, a, b, c, e));
    few = (let a = own.size in let b = sizes in let c = z.tree.few in omega (arith, a, b, c));
    sound = z.links;
  }
    where
      high_by : (own.below ≡ none) ⊎ (it.depth ≤ deepest_of it.depth it.node) → (own.below ≡ none) ⊎ (own.it.depth ≤ 128)
      high_by (inl e) = inl e
      high_by (inr l) = inr (let b = deepest_here key 1 d.forest it (lies key 1 d.forest it found_it) in let c = z.tree.shallow in let e = deep_at in omega (arith, l, b, c, e))

  module _ (p place : ℕ) (child : IsChildAt old p place key) (q : Prunes old new p place key own.below) (sound : IsSound new) (parent : x.parent ≢ None) where
    remaining : (m : ℕ) → has m (replaced key (λ node. none) d.forest) ≡ true → (has m d.forest ≡ true) × (m ≢ key) × (has m own.below ≡ false)
    remaining m h =
        let a = times_changed m key 1 (λ node. none) d.forest it (lies key 1 d.forest it found_it) in
        let b = has_times m (replaced key (λ node. none) d.forest) h in
        let c = own.times_are m in let e = z.tree.differ m in (
          present_times m d.forest (omega (arith, a, b)),
          (λ k. let f : ◌≡◌ {A = ℕ} (if key == m then 1 else 0) 1 = ap (λ b. if b then 1 else 0) (eq-eqb key m (sym k)) in absurd (omega (arith, a, b, c, e, f))),
          absent_times m own.below (omega (arith, a, b, c, e)),
        )

    not_child : (m : ℕ) (y : Node) → m ≢ p → IsNode old m y → Has key y.children → ⊥
    not_child m y apart i h =
        let c = z.links.down m key y i h in
        let e = z.links.down p key child.0 child.1 (has_place child.0.children place child.2) in
        let same = same_Some c.child e.child (sym c.is ∙ e.is) in
        apart (same_Some m p (sym c.parent ∙ ap (λ (n : Node). n.parent) same ∙ e.parent))
      where
        has_place : (xs : List ℕ) (i : ℕ) → slice_get xs i ≡ Some key → Has key xs
        has_place [] i e = absurd (none-some key e)
        has_place (x ∷ xs) zero e = inl (same_Some x key e)
        has_place (x ∷ xs) (suc i) e = inr (has_place xs i e)

    lessened : (m : ℕ) (o : Option Node) → node old m ≡ o → m ≢ p → node old m ≡ option_map (childless key) (node old m)
    lessened m None e far = e ∙ sym (ap (option_map (childless key)) e)
    lessened m (Some y) e far =
        e ∙ ap (λ l. Some (record y { children = l })) (sym (without_lacks key y.children (not_child m y far e))) ∙ sym (ap (option_map (childless key)) e)

    changed_at : (m : ℕ) → has m (replaced key (λ node. none) d.forest) ≡ true → node new m ≡ option_map (childless key) (node old m)
    changed_at m h = by (m == p) refl
      where
        by : (b : Bool) → (m == p) ≡ b → node new m ≡ option_map (childless key) (node old m)
        by true e =
            let k = eqb-true m p e in
            ap (node new) k ∙ q.parent child.0 child.1
            ∙ ap (λ l. Some (record child.0 { children = l })) (remove_without child.0.children place key child.2 (z.links.once p child.0 child.1))
            ∙ sym (ap (option_map (childless key)) (ap (node old) k ∙ child.1))
        by false e =
            let apart : m ≢ p = λ k. true≢false (sym (eq-eqb m p k) ∙ e) in
            let r = remaining m h in
            q.others m apart r.1 r.2 ∙ lessened m (node old m) refl apart

    not_root : is_root key d.forest ≡ false
    not_root = false_from_ne_true (is_root key d.forest) (λ h. by d.forest z.tree.root h)
      where
        root_key : (n : ℕ) → n ≡ 1 → (n == key) ≡ true → ⊥
        root_key n e h = parent (z.root x (ap (node old) (sym e ∙ eqb-true n key h) ∙ there)).0

        by : (f : Forest) → HasRoot f → is_root key f ≡ true → ⊥
        by none r h = r
        by (text n chars next) r h = r
        by (element n name bindings attributes children next) r h = root_key n r.0 h

    only_left : (m : ℕ) (y : Node) → IsNode new m y → has m (replaced key (λ node. none) d.forest) ≡ true
    only_left m y i =
        let c = own.times_are m in
        let out : has m own.below ≡ false = false_from_ne_true (has m own.below) (λ h. none-some y (sym (q.gone m h) ∙ i)) in
        let apart : m ≢ key = λ k. none-some y (sym q.here ∙ ap (node new) (sym k) ∙ i) in
        let a = times_changed m key 1 (λ node. none) d.forest it (lies key 1 d.forest it found_it) in
        let f : ◌≡◌ {A = ℕ} (if key == m then 1 else 0) 0 = if_none (key == m) (ne_eqb key m (λ k. apart (sym k))) in
        let g = no_times m own.below out in
        let b = has_times m d.forest (was m y i apart out) in
        present_times m (replaced key (λ node. none) d.forest) (omega (arith, a, b, c, f, g))
      where
        was_if : (m : ℕ) (y : Node) → IsNode new m y → m ≢ key → has m own.below ≡ false → (b : Bool) → (m == p) ≡ b → has m d.forest ≡ true
        was_if m y i apart out true e = let k = eqb-true m p e in z.only m child.0 (ap (node old) k ∙ child.1)
        was_if m y i apart out false e = z.only m y (sym (q.others m (λ k. true≢false (sym (eq-eqb m p k) ∙ e)) apart out) ∙ i)

        was : (m : ℕ) (y : Node) → IsNode new m y → m ≢ key → has m own.below ≡ false → has m d.forest ≡ true
        was m y i apart out = was_if m y i apart out (m == p) refl

    root_left : (y : Node) → IsNode new 1 y → (y.parent ≡ None) × (y.depth ≡ 1)
    root_left y i = by (node old 1) refl
      where
        c : node new 1 ≡ option_map (childless key) (node old 1)
        c = changed_at 1 (only_left 1 y i)

        by : (o : Option Node) → node old 1 ≡ o → (y.parent ≡ None) × (y.depth ≡ 1)
        by None e = absurd (none-some y (sym (c ∙ ap (option_map (childless key)) e) ∙ i))
        by (Some v) e =
            let same = same_Some y (childless key v) (sym i ∙ c ∙ ap (option_map (childless key)) e) in
            let r = z.root v e in
            (ap (λ (n : Node). n.parent) same ∙ r.0, ap (λ (n : Node). n.depth) same ∙ r.1)

    pub stands_removed : StandsFor t new (record d { forest = replaced key (λ node. none) d.forest })
    stands_removed = record {
      table = z.table;
      links = sound;
      tree = changed_tree d key d.next_free (λ node. none) none it z.tree found_it (omega arith) (λ root _. absurd (true≢false (sym root ∙ not_root))) (λ a. tt) (λ j. omega arith)
          (λ j. let e = z.tree.differ j in omega (arith, e)) (omega arith) (let e = z.tree.few in omega (arith, e)) (omega arith);
      nodes = (stand_removed t old new key 1 d.forest it (lies key 1 d.forest it found_it) z.nodes (z.tree.differ key) changed_at).0;
      root = root_left;
      only = only_left;
      next = q.size ∙ z.next;
    }

-- a node with a parent is a child of it, at some place
pub record IsPlaced (ns : Nodes) (n : ℕ) : Type 0 where
  pub it : Node
  pub is : IsNode ns n it
  pub below : it.parent ≢ None
  pub parent : ℕ
  pub place : ℕ
  pub at : IsChildAt ns parent place n

pub some_place : (n : ℕ) (xs : List ℕ) → Has n xs → (i : ℕ) × (slice_get xs i ≡ Some n)
some_place n [] h = absurd h
some_place n (x ∷ xs) (inl e) = (0, ap Some e)
some_place n (x ∷ xs) (inr h) = let r = some_place n xs h in (suc r.0, r.1)

pub placed : (ns : Nodes) (n : ℕ) → IsSound ns → option_and_then (λ (x : Node). x.parent) (node ns n) ≢ None → IsPlaced ns n
placed ns n sound h = by (node ns n) refl
  where
    with_parent : (x : Node) → IsNode ns n x → (o : Option ℕ) → x.parent ≡ o → IsPlaced ns n
    with_parent x e None q = absurd (h (ap (option_and_then (λ (y : Node). y.parent)) e ∙ q))
    with_parent x e (Some p) q =
        let u = sound.up n p x e q in
        let r = some_place n u.parent.children u.has in
        record { it = x; is = e; below = (λ k. none-some p (sym k ∙ q)); parent = p; place = r.0; at = (u.parent, u.is, r.1) }

    by : (o : Option Node) → node ns n ≡ o → IsPlaced ns n
    by None e = absurd (h (ap (option_and_then (λ (y : Node). y.parent)) e))
    by (Some x) e = with_parent x e x.parent refl
