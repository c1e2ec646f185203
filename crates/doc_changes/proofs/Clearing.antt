-- What is below a node, taken away child by child.
use Rattle.std.proofs.Common.{◌≡◌, ◌≢◌, ◌⊎◌, ℕ, zero, suc, ◌+◌, ◌-◌, ◌<◌, ◌≤◌, List, [], ◌∷◌, length, remove, sym, ap, ◌∙◌, subst, Bool, true, false, ◌==◌, ◌||◌, if◌then◌else◌, Option, Some, None, refl, inl, inr, arith}
use Rattle.std.specs.Prelude.{slice_get}
use Rattle.std.specs.Option.{option_and_then}
use Rattle.std.proofs.lemmas.Bool.{or_parts, or_left, or_right, or_cases, eqb-true, eq-eqb, false≢true, true≢false, false_from_ne_true, true_from_ne_false}
use Rattle.std.proofs.lemmas.Option.{same_Some, none-some}
use Rattle.xs_names.specs.Names.{NameTable}
use Rattle.tree_rows.specs.Forest.{Forest, none, text, element, count, deepest_of}
use Rattle.tree_rows.specs.Whole.{times}
use Rattle.tree_rows.specs.declared.name.Expanded.{Expanded}
use Rattle.tree_rows.specs.declared.row.Attribute.{Attribute}
use Rattle.tree_rows.specs.declared.row.Binding.{Binding}
use Rattle.tree_edits.specs.Edits.{has, append}
use Rattle.tree_edits.proofs.Lying.{count-append, times-append, deepest_append}
use Rattle.doc_nodes.specs.Nodes.{Node, Nodes, node, IsNode, IsSound, IsChildAt, Has, Removes, children_by, depth_by}
use Rattle.doc_changes.specs.Stands.{firsts, IsElement, StandFor}
use Rattle.doc_changes.specs.Parts.{IsOver, Clears, Prunes}
use Rattle.doc_changes.proofs.Standing.{stand_same, stand_parts, append_none, append_assoc_forest, has_append, from_both, has_left, has_right, has_times, absent_times, or_none}

-- the first of some siblings, apart from the next ones
pub record IsHead (t : NameTable) (ns : Nodes) (left : Forest) (c : ℕ) : Type 0 where
  pub one : Forest
  pub below : Forest
  pub next : Forest
  pub split : left ≡ append one next
  pub firsts_are : firsts left ≡ c ∷ firsts next
  pub has_is : (m : ℕ) → has m one ≡ (c == m || has m below)
  pub times_are : (m : ℕ) → times m one ≡ (if c == m then 1 else 0) + times m below
  pub size : count one ≡ 1 + count below
  pub it : Node
  pub is : IsNode ns c it
  pub children : it.children ≡ firsts below
  pub stand : StandFor t ns below
  pub high : (k : ℕ) → (below ≡ none) ⊎ (k ≤ deepest_of k one)
  pub deep : (k : ℕ) → deepest_of (k + 1) below ≤ deepest_of k one

pub head_of : (t : NameTable) (ns : Nodes) (left : Forest) (c : ℕ) → slice_get (firsts left) 0 ≡ Some c → StandFor t ns left → IsHead t ns left c
head_of t ns none c e s = absurd (none-some c e)
head_of t ns (text number chars next) c e s =
    subst (IsHead t ns (text number chars next)) (same_Some number c e) (record {
      one = text number chars none;
      below = none;
      next = next;
      split = refl;
      firsts_are = refl;
      has_is = λ m. refl;
      times_are = λ m. refl;
      size = omega arith;
      it = s.0.text;
      is = s.0.is;
      children = s.0.no_children;
      stand = tt;
      high = λ k. inl refl;
      deep = λ k. omega arith;
    })
head_of t ns (element number name bindings attributes children next) c e s =
    subst (IsHead t ns (element number name bindings attributes children next)) (same_Some number c e) (record {
      one = element number name bindings attributes children none;
      below = children;
      next = next;
      split = refl;
      firsts_are = refl;
      has_is = λ m. ap (λ b. number == m || b) (or_none (has m children));
      times_are = λ m. omega arith;
      size = omega arith;
      it = s.0.it;
      is = s.0.is;
      children = s.0.children_are;
      stand = s.1;
      high = λ k. inr (omega arith);
      deep = λ k. omega arith;
    })

-- some of what was below n was taken away, so many nodes, and these siblings are left
pub record ClearsSoFar (old now : Nodes) (n : ℕ) (whole : Forest) (gone_count : ℕ) : Type 0 where
  pub cleared : Forest
  pub left : Forest
  pub split : whole ≡ append cleared left
  pub size : length now ≡ length old
  pub here : (it : Node) → IsNode old n it → IsNode now n (record it { children = firsts left })
  pub gone : (m : ℕ) → has m cleared ≡ true → node now m ≡ None
  pub others : (m : ℕ) → m ≢ n → has m cleared ≡ false → node now m ≡ node old m
  pub counted : gone_count ≡ count cleared

pub begun : (t : NameTable) (ns : Nodes) (n : ℕ) (whole : Forest) → IsOver t ns n whole → ClearsSoFar ns ns n whole 0
begun t ns n whole over = record {
  cleared = none;
  left = whole;
  split = refl;
  size = refl;
  here = λ it h. h ∙ ap (λ l. Some (record it { children = l })) (ap (λ (x : Node). x.children) (same_Some it over.it (sym h ∙ over.is)) ∙ over.children);
  gone = λ m h. absurd (false≢true h);
  others = λ m d h. refl;
  counted = refl;
}

no_firsts : (f : Forest) → None ≡ slice_get (firsts f) 0 → f ≡ none
no_firsts none e = refl
no_firsts (text number chars next) e = absurd (none-some number e)
no_firsts (element number name bindings attributes children next) e = absurd (none-some number e)

module _ (t : NameTable) (old now : Nodes) (n : ℕ) (whole : Forest) (k : ℕ) (over : IsOver t old n whole) (so : ClearsSoFar old now n whole k) where
  there : IsNode now n (record over.it { children = firsts so.left })
  there = so.here over.it over.is

  first_is : slice_get (children_by (node now n)) 0 ≡ slice_get (firsts so.left) 0
  first_is = ap (λ o. slice_get (children_by o) 0) there

  pub ended : None ≡ slice_get (children_by (node now n)) 0 → Clears old now n whole × (k ≡ count whole)
  ended e =
      let left_none = no_firsts so.left (e ∙ first_is) in
      let all : whole ≡ so.cleared = so.split ∙ ap (append so.cleared) left_none ∙ append_none so.cleared in (
        record {
          size = so.size;
          here = λ it h. so.here it h ∙ ap (λ f. Some (record it { children = firsts f })) left_none;
          gone = λ m h. so.gone m (sym (ap (has m) all) ∙ h);
          others = λ m d h. so.others m d (sym (ap (has m) all) ∙ h);
        },
        so.counted ∙ sym (ap count all),
      )

  in_whole : (m : ℕ) → has m so.left ≡ true → has m whole ≡ true
  in_whole m h = ap (has m) so.split ∙ has_right m so.cleared so.left h

  not_n : (m : ℕ) → has m whole ≡ true → m ≢ n
  not_n m h e = true≢false (sym h ∙ ap (λ j. has j whole) e ∙ over.outside)

  not_cleared : (m : ℕ) → has m so.left ≡ true → has m so.cleared ≡ false
  not_cleared m h = false_from_ne_true (has m so.cleared) (λ j.
      let x = has_times m so.cleared j in let y = has_times m so.left h in
      let z = times-append m so.cleared so.left in let v = ap (times m) so.split in let q = over.differ m in
      absurd (omega (arith, x, y, z, v, q)))

  left_stands : StandFor t now so.left
  left_stands = stand_same t old now so.left (λ m h. so.others m (not_n m (in_whole m h)) (not_cleared m h))
      (stand_parts t old so.cleared so.left (subst (StandFor t old) so.split over.stand)).1

  pub head : (c : ℕ) → Some c ≡ slice_get (children_by (node now n)) 0 → IsHead t now so.left c
  head c e = head_of t now so.left c (sym (e ∙ first_is)) left_stands

  pub is_child : (c : ℕ) → Some c ≡ slice_get (children_by (node now n)) 0 → IsChildAt now n 0 c
  is_child c e = (record over.it { children = firsts so.left }, there, sym (e ∙ first_is))

module _ (t : NameTable) (old now : Nodes) (n : ℕ) (whole : Forest) (k : ℕ) (over : IsOver t old n whole) (so : ClearsSoFar old now n whole k)
    (c : ℕ) (h : IsHead t now so.left c) where
  own_has : has c h.one ≡ true
  own_has = h.has_is c ∙ or_left (c == c) (has c h.below) (eq-eqb c c refl)

  one_left : (m : ℕ) → has m h.one ≡ true → has m so.left ≡ true
  one_left m j = ap (has m) h.split ∙ has_left m h.one h.next j

  one_whole : (m : ℕ) → has m h.one ≡ true → has m whole ≡ true
  one_whole m j = ap (has m) so.split ∙ has_right m so.cleared so.left (one_left m j)

  pub apart : c ≢ n
  apart = not_n t old now n whole k over so c (one_whole c own_has)

  one_apart : (m : ℕ) → has m h.one ≡ true → m ≢ n
  one_apart m j = not_n t old now n whole k over so m (one_whole m j)

  below_one : (m : ℕ) → has m h.below ≡ true → has m h.one ≡ true
  below_one m j = h.has_is m ∙ or_right (c == m) (has m h.below) j

  pub n_outside : has n h.below ≡ false
  n_outside = false_from_ne_true (has n h.below) (λ j. one_apart n (below_one n j) refl)

  parts : (m : ℕ) → times m whole ≡ times m so.cleared + (times m h.one + times m h.next)
  parts m = ap (times m) so.split ∙ times-append m so.cleared so.left ∙ ap (λ x. times m so.cleared + x) (ap (times m) h.split ∙ times-append m h.one h.next)

  deeps : (j : ℕ) → deepest_of j h.one ≤ deepest_of j whole
  deeps j =
      let a = ap (deepest_of j) so.split ∙ deepest_append j so.cleared so.left in
      let b = ap (deepest_of j) h.split ∙ deepest_append j h.one h.next in
      omega (arith, a, b)

  sizes : 1 + count h.below + count so.cleared ≤ count whole
  sizes =
      let a = ap count so.split ∙ count-append so.cleared so.left in
      let b = ap count h.split ∙ count-append h.one h.next in
      let s = h.size in
      omega (arith, a, b, s)

  pub room : 1 + count h.below + k ≤ 131072
  room = let s = sizes in let f = over.few in let e = so.counted in omega (arith, s, f, e)

  own_once : times c h.below ≡ 0
  own_once =
      let a = parts c in let b = over.differ c in let d = h.times_are c in
      let e : ◌≡◌ {A = ℕ} (if c == c then 1 else 0) 1 = ap (λ b. if b then 1 else 0) (eq-eqb c c refl) in
      omega (arith, a, b, d, e)

  pub shallow_parent : over.it.depth ≤ 128
  shallow_parent = by over.high
    where
      by : (whole ≡ none) ⊎ (over.it.depth ≤ 128) → over.it.depth ≤ 128
      by (inl e) = absurd (true≢false (sym (one_whole c own_has) ∙ ap (has c) e))
      by (inr l) = l

  module _ (sound : IsSound now) where
    depth_is : h.it.depth ≡ over.it.depth + 1
    depth_is =
        let d = sound.down n c (record over.it { children = firsts so.left }) (so.here over.it over.is) (subst (Has c) (sym h.firsts_are) (inl refl)) in
        ap (λ (x : Node). x.depth) (same_Some h.it d.child (sym h.is ∙ d.is)) ∙ d.below

    pub has_parent : h.it.parent ≡ Some n
    has_parent =
        let d = sound.down n c (record over.it { children = firsts so.left }) (so.here over.it over.is) (subst (Has c) (sym h.firsts_are) (inl refl)) in
        ap (λ (x : Node). x.parent) (same_Some h.it d.child (sym h.is ∙ d.is)) ∙ d.parent

    high_below : (h.below ≡ none) ⊎ (h.it.depth ≤ 128)
    high_below = by (h.high (over.it.depth + 1))
      where
        by : (h.below ≡ none) ⊎ (over.it.depth + 1 ≤ deepest_of (over.it.depth + 1) h.one) → (h.below ≡ none) ⊎ (h.it.depth ≤ 128)
        by (inl e) = inl e
        by (inr l) = inr (let a = deeps (over.it.depth + 1) in let b = over.shallow in let d = depth_is in omega (arith, l, a, b, d))

    pub over_child : IsOver t now c h.below
    over_child = record {
      it = h.it;
      is = h.is;
      children = h.children;
      stand = h.stand;
      differ = λ m. let a = parts m in let b = over.differ m in let d = h.times_are m in omega (arith, a, b, d);
      outside = absent_times c h.below own_once;
      high = high_below;
      shallow = (
          let a = h.deep (over.it.depth + 1) in let b = deeps (over.it.depth + 1) in let s = over.shallow in
          let d = ap (λ j. deepest_of (j + 1) h.below) depth_is in omega (arith, a, b, s, d)
          );
      few = (let s = sizes in let f = over.few in omega (arith, s, f));
      sound = sound;
    }

    pub lower : 130 - depth_by (node now c) < 130 - depth_by (node old n)
    lower =
        let a = ap depth_by h.is in let b = ap depth_by over.is in let d = depth_is in let s = shallow_parent in
        omega (arith, a, b, d, s)

  -- the first child was cleared, and taken away
  module _ (mid new : Nodes) (clears : Clears now mid c h.below) where
    pub mid_parent : node mid n ≡ node now n
    mid_parent = clears.others n (λ e. apart (sym e)) n_outside

    pub mid_child : IsNode mid c (record h.it { children = [] })
    mid_child = clears.here h.it h.is

    case_one : (m : ℕ) → (b : Bool) → (c == m) ≡ b → has m h.one ≡ true → (c ≡ m) ⊎ (has m h.below ≡ true)
    case_one m true e j = inl (eqb-true c m e)
    case_one m false e j = inr (sym (h.has_is m ∙ ap (λ b. b || has m h.below) e) ∙ j)

    module _ (r : Removes mid new n 0 c) where
      gone_one : (m : ℕ) → has m h.one ≡ true → node new m ≡ None
      gone_one m j = by (case_one m (c == m) refl j)
        where
          by : (c ≡ m) ⊎ (has m h.below ≡ true) → node new m ≡ None
          by (inl e) = subst (λ x. node new x ≡ None) e r.gone
          by (inr b) = r.others m (one_apart m j) (λ e. true≢false (sym b ∙ ap (λ x. has x h.below) e ∙ absent_times c h.below own_once)) ∙ clears.gone m b

      not_one : (m : ℕ) → has m h.one ≡ false → (m ≢ c) × (has m h.below ≡ false)
      not_one m j =
          let p = or_parts (c == m) (has m h.below) (sym (h.has_is m) ∙ j) in
          (λ e. true≢false (sym (eq-eqb c m (sym e)) ∙ p.0), p.1)

      kept : (m : ℕ) → m ≢ n → has m h.one ≡ false → node new m ≡ node now m
      kept m d j = let p = not_one m j in r.others m d p.0 ∙ clears.others m p.0 p.1

      in_cleared : (m : ℕ) → has m so.cleared ≡ true → (m ≢ n) × (has m h.one ≡ false)
      in_cleared m j = (
        not_n t old now n whole k over so m (ap (has m) so.split ∙ has_left m so.cleared so.left j),
        false_from_ne_true (has m h.one) (λ o.
            let x = has_times m so.cleared j in let y = has_times m h.one o in let z = parts m in let q = over.differ m in absurd (omega (arith, x, y, z, q))),
      )

      gone_all : (m : ℕ) → (b : Bool) → has m so.cleared ≡ b → has m (append so.cleared h.one) ≡ true → node new m ≡ None
      gone_all m true e j = let p = in_cleared m e in kept m p.0 p.1 ∙ so.gone m e
      gone_all m false e j = gone_one m (true_from_ne_false (has m h.one) (λ o. true≢false (sym j ∙ from_both m so.cleared h.one e o)))

      here_next : (x : Node) → IsNode old n x → IsNode new n (record x { children = firsts h.next })
      here_next x i =
          r.parent (record x { children = firsts so.left }) (mid_parent ∙ so.here x i)
          ∙ ap (λ l. Some (record x { children = remove l 0 })) h.firsts_are

      pub next_so : (k2 : ℕ) → k2 ≡ k + (count h.below + 1) → ClearsSoFar old new n whole k2
      next_so k2 e = record {
        cleared = append so.cleared h.one;
        left = h.next;
        split = so.split ∙ ap (append so.cleared) h.split ∙ sym (append_assoc_forest so.cleared h.one h.next);
        size = r.size ∙ clears.size ∙ so.size;
        here = here_next;
        gone = λ m j. gone_all m (has m so.cleared) refl j;
        others = λ m d j. let p = has_append m so.cleared h.one j in kept m d p.1 ∙ so.others m d p.0;
        counted = (let a = count-append so.cleared h.one in let s = h.size in let b = so.counted in omega (arith, e, a, s, b));
      }

      pub fewer : length (children_by (node new n)) < length (children_by (node now n))
      fewer =
          let a : length (children_by (node new n)) ≡ length (firsts h.next) = ap (λ o. length (children_by o)) (here_next over.it over.is) in
          let b : length (children_by (node now n)) ≡ length (firsts so.left) = ap (λ o. length (children_by o)) (so.here over.it over.is) in
          let d = ap length h.firsts_are in
          omega (arith, a, b, d)

-- nodes below others are as deep
module _ (t : NameTable) (ns : Nodes) (sound : IsSound ns) where
  abbrev AtLeast : ℕ → List ℕ → Type 0
  AtLeast k cs = (c : ℕ) (x : Node) → Has c cs → IsNode ns c x → k ≤ x.depth

  children_deep : (k number : ℕ) (name : Expanded) (bindings : List Binding) (attributes : List Attribute) (children : Forest)
      → IsElement t ns number name bindings attributes children → ((x : Node) → IsNode ns number x → k ≤ x.depth) → AtLeast k (firsts children)
  children_deep k number name bindings attributes children e h = λ c x j i.
      let d = sound.down number c e.it e.is (subst (Has c) (sym e.children_are) j) in
      let same = ap (λ (y : Node). y.depth) (same_Some x d.child (sym i ∙ d.is)) in
      let b = d.below in let l = h e.it e.is in omega (arith, same, b, l)

  pub deep_in : (k : ℕ) (f : Forest) → StandFor t ns f → AtLeast k (firsts f) → (m : ℕ) → has m f ≡ true → (x : Node) → IsNode ns m x → k ≤ x.depth
  deep_in k none s h m j x i = absurd (false≢true j)
  deep_in k (text number chars next) s h m j x i = elim (or_cases (number == m) (has m next) j) [
    | inl e ↦ h m x (inl (eqb-true number m e)) i
    | inr l ↦ deep_in k next s.1 (λ c y z. h c y (inr z)) m l x i
  ]
  deep_in k (element number name bindings attributes children next) s h m j x i = elim (or_cases (number == m) (has m children || has m next) j) [
    | inl e ↦ h m x (inl (eqb-true number m e)) i
    | inr l ↦ elim (or_cases (has m children) (has m next) l) [
      | inl b ↦ deep_in k children s.1 (children_deep k number name bindings attributes children s.0 (λ y. h number y (inl refl))) m b x i
      | inr b ↦ deep_in k next s.2 (λ c y z. h c y (inr z)) m b x i
    ]
  ]

-- a node that was cleared was taken away
module _ (t : NameTable) (old mid new : Nodes) (n : ℕ) (below : Forest) (over : IsOver t old n below) (clears : Clears old mid n below) where
  pub cleared_node : IsNode mid n (record over.it { children = [] })
  cleared_node = clears.here over.it over.is

  pub cleared_parent : (o : Option Node) → node old n ≡ o → option_and_then (λ (x : Node). x.parent) o ≢ None → over.it.parent ≢ None
  cleared_parent o e h k = h (ap (option_and_then (λ (x : Node). x.parent)) (sym e ∙ over.is) ∙ k)

  module _ (p place : ℕ) (at : IsChildAt old p place n) where
    has_at : (xs : List ℕ) (i : ℕ) → slice_get xs i ≡ Some n → Has n xs
    has_at [] i e = absurd (none-some n e)
    has_at (x ∷ xs) zero e = inl (same_Some x n e)
    has_at (x ∷ xs) (suc i) e = inr (has_at xs i e)

    depth_below : over.it.depth ≡ at.0.depth + 1
    depth_below =
        let d = over.sound.down p n at.0 at.1 (has_at at.0.children place at.2) in
        ap (λ (x : Node). x.depth) (same_Some over.it d.child (sym over.is ∙ d.is)) ∙ d.below

    outside : has p below ≡ false
    outside = false_from_ne_true (has p below) (λ j.
        let a = deep_in t old over.sound (over.it.depth + 1) below over.stand (λ c x z i.
        let d = over.sound.down n c over.it over.is (subst (Has c) (sym over.children) z) in
        let same = ap (λ (y : Node). y.depth) (same_Some x d.child (sym i ∙ d.is)) in
        let b = d.below in omega (arith, same, b)) p j at.0 at.1 in
        let b = depth_below in absurd (omega (arith, a, b)))

    deeper : p ≢ n
    deeper e =
        let same = ap (λ (x : Node). x.depth) (same_Some at.0 over.it (sym at.1 ∙ ap (node old) e ∙ over.is)) in
        let b = depth_below in absurd (omega (arith, same, b))

    parent_still : node mid p ≡ node old p
    parent_still = clears.others p deeper outside

    pub child_still : IsChildAt mid p place n
    child_still = (at.0, parent_still ∙ at.1, at.2)

    pub pruned : Removes mid new p place n → Prunes old new p place n below
    pruned r = record {
      size = r.size ∙ clears.size;
      parent = λ it h. r.parent it (parent_still ∙ h);
      here = r.gone;
      gone = λ m j. r.others m (λ e. true≢false (sym j ∙ ap (λ x. has x below) e ∙ outside)) (λ e. true≢false (sym j ∙ ap (λ x. has x below) e ∙ over.outside)) ∙ clears.gone m j;
      others = λ m a b j. r.others m a b ∙ clears.others m b j;
    }
