-- Rows that are put one after the other.
use Rattle.std.proofs.Common.{◌≡◌, ◌≢◌, ℕ, ◌+◌, ◌<◌, ◌≤◌, List, [], ◌++◌, length, drop, get_or, sym, ap, ◌∙◌, subst, true, false, ◌==◌, ◌||◌, Some, None, refl, arith}
use Rattle.std.proofs.lemmas.Bool.{or_parts, or_left, eq-eqb, true≢false, false≢true, false_from_ne_true}
use Rattle.std.proofs.lemmas.Option.{same_Some}
use Rattle.xs_names.specs.Names.{NameTable}
use Rattle.tree_rows.specs.Forest.{Forest, none, text, element, count, deepest_of}
use Rattle.tree_rows.specs.Whole.{times}
use Rattle.tree_edits.specs.Edits.{has, append}
use Rattle.tree_edits.proofs.BlockNaming.{HaveNames}
use Rattle.tree_edits.proofs.Lying.{count-append, deepest_append}
use Rattle.doc_nodes.specs.declared.content.Content.TheVariants as contents
use Rattle.doc_nodes.specs.declared.content.Element.{Element}
use Rattle.doc_nodes.specs.Nodes.{Node, Nodes, node, IsNode, Inserts, IsSound as AreSound}
use Rattle.doc_changes.specs.Stands.{firsts}
use Rattle.doc_changes.proofs.Standing.{append_assoc_forest, append_none, has_left, has_right, times_append, has_times}
use Rattle.doc_changes.specs.inside.Growing.{at_end, before, CanPlant, Planted, PlantedFirst}
use Rattle.doc_changes.proofs.Growth.{planted_none, planted_append, planted_last, planted_text, planted_element, names_left, names_right, not_parent, parent_outside, can_children}
use Rattle.tree_edits.specs.Inverses.{IsOne}
use Rattle.tree_edits.specs.Sites.{first_number}
use Rattle.doc_tree.specs.Parts.{AreRows}
use Rattle.doc_tree.specs.inside.Putting.{Holds, HoldsOne, PutSoFar, begins}
use Rattle.doc_tree.specs.declared.part.PartRow.{PartRow}
use Rattle.doc_tree.proofs.InverseRows.{Step, step, no_more, rows_left, row_number, text_row, ElementRow, element_row}

pub begun : (t : NameTable) (ns : Nodes) (p depth : ℕ) (rows : List PartRow) (f : Forest) (end : List PartRow) → Holds t ns p depth rows f end → PutSoFar t ns ns p depth rows f end 0
begun t ns p depth rows f end h = record { gone = none; next = f; split = refl; counted = refl; are = h.are; planted = planted_none t ns p h.can.sound }

module _ (t : NameTable) (old now : Nodes) (p depth : ℕ) (left : List PartRow) (f : Forest) (end : List PartRow) (done : ℕ) (rows : List PartRow)
    (h : Holds t old p depth rows f end) (so : PutSoFar t old now p depth left f end done) where
  pub ended : begins depth left ≡ false → Planted t old now p at_end f × (done ≡ count f)
  ended e =
      let k = no_more t depth left so.next end so.are e in
      let is : f ≡ so.gone = so.split ∙ ap (append so.gone) k ∙ append_none so.gone in
      (subst (Planted t old now p at_end) (sym is) so.planted, so.counted ∙ ap count (sym is))

  pub first : PlantedFirst t old now p at_end f
  first = record { part = so.gone; rest = so.next; split = so.split; planted = so.planted }

  module _ (more : begins depth left ≡ true) where
    pub next : Step t depth left so.next end
    next = step t depth left so.next end so.are h.stops more

    parted : f ≡ append so.gone (append (next).one (next).rest)
    parted = so.split ∙ ap (append so.gone) (next).split

    in_whole : (m : ℕ) → has m (next).one ≡ true → has m f ≡ true
    in_whole m k = ap (has m) parted ∙ has_right m so.gone (append (next).one (next).rest) (has_left m (next).one (next).rest k)

    gone_apart : (m : ℕ) → has m so.gone ≡ true → has m (next).one ≡ false
    gone_apart m k = false_from_ne_true (has m (next).one) (λ j.
        let x = has_times m so.gone k in let y = has_times m (next).one j in
        let z = times_append m so.gone (append (next).one (next).rest) in let w = times_append m (next).one (next).rest in
        let v = ap (times m) parted in let q = h.can.differ m in
        absurd (omega (arith, x, y, z, w, v, q)))

    parent_now : IsNode now p (record h.can.it { children = h.can.it.children ++ firsts so.gone })
    parent_now = so.planted.parent h.can.it h.can.is

    can_next : CanPlant now p (next).one
    can_next = record {
      it = record h.can.it { children = h.can.it.children ++ firsts so.gone };
      is = parent_now;
      high = h.can.high;
      shallow = (
          let k = h.can.it.depth + 1 in
          let a = deepest_append k (next).one (next).rest in let b = deepest_append k so.gone (append (next).one (next).rest) in
          let c = ap (deepest_of k) parted in let d = h.can.shallow in omega (arith, a, b, c, d)
          );
      free = λ m k.
          let z = h.can.free m (in_whole m k) in
          let out = false_from_ne_true (has m so.gone) (λ j. false≢true (sym (gone_apart m j) ∙ k)) in
          (so.planted.others m out (not_parent old p f h.can m (in_whole m k)) ∙ z.0, subst (λ n. m < n) (sym so.planted.size) z.1);
      differ = λ m.
          let z = times_append m so.gone (append (next).one (next).rest) in let w = times_append m (next).one (next).rest in
          let v = ap (times m) parted in let q = h.can.differ m in omega (arith, z, w, v, q);
      names = names_left (next).one (next).rest (names_right so.gone (append (next).one (next).rest) (subst HaveNames parted h.can.names));
      few = (
          let a = count-append (next).one (next).rest in let b = count-append so.gone (append (next).one (next).rest) in
          let c = ap count parted in let d = h.can.few in omega (arith, a, b, c, d)
          );
      sound = so.planted.sound;
    }

    pub holds_next : HoldsOne t now p depth left (next).one (next).mid
    holds_next = record {
      are = (next).rows_one;
      stops = (next).stops;
      can = can_next;
      level = λ it is. let e = ap (λ (x : Node). x.depth) (same_Some it (record h.can.it { children = h.can.it.children ++ firsts so.gone }) (sym is ∙ parent_now)) in
          let l = h.level h.can.it h.can.is in omega (arith, e, l);
      one = (next).own;
    }

    gone_or_parent : (m : ℕ) → has m so.gone ≡ true → (has m (next).one ≡ false) × (m ≢ p)
    gone_or_parent m k = (gone_apart m k, not_parent old p f h.can m (ap (has m) parted ∙ has_left m so.gone (append (next).one (next).rest) k))

    -- as many rows are left
    pub within : count (next).one ≤ length left
    within = (rows_left t depth left (next).one (next).mid (next).rows_one).1

    pub room : done + count (next).one ≤ 131072
    room =
        let a = count-append (next).one (next).rest in let b = count-append so.gone (append (next).one (next).rest) in
        let c = ap count parted in let d = h.can.few in let e = so.counted in omega (arith, a, b, c, d, e)

    pub next_so : (new : Nodes) (place n after : ℕ) → ((it : Node) → IsNode now p it → place ≡ length it.children) → Planted t now new p (before place) (next).one → n ≡ count (next).one → after ≡ done + n
        → PutSoFar t old new p depth (drop n left) f end after
    next_so new place n after last put size sum = record {
      gone = append so.gone (next).one;
      next = (next).rest;
      split = parted ∙ sym (append_assoc_forest so.gone (next).one (next).rest);
      counted = (let a = so.counted in let b = count-append so.gone (next).one in omega (arith, a, b, size, sum));
      are = subst (λ l. AreRows t depth l (next).rest end) (sym (ap (λ k. drop k left) size ∙ (rows_left t depth left (next).one (next).mid (next).rows_one).0)) (next).rows_rest;
      planted = planted_append t old now new p so.gone (next).one so.planted (planted_last t now new p place (next).one last put) gone_or_parent;
    }

pub count_one : (f : Forest) → IsOne f → 1 ≤ count f
count_one none o = absurd o
count_one (text n chars next) o = omega arith
count_one (element n name bindings attributes children next) o = omega arith

-- one node, by its row
pub one_free : (ns : Nodes) (p : ℕ) (f : Forest) → CanPlant ns p f → IsOne f → (k : ℕ) → k ≡ first_number f → (node ns k ≡ None) × (k < length ns)
one_free ns p none can o k e = absurd o
one_free ns p (text n chars next) can o k e = subst (λ j. (node ns j ≡ None) × (j < length ns)) (sym e) (can.free n (or_left (n == n) (has n next) (eq-eqb n n refl)))
one_free ns p (element n name bindings attributes children next) can o k e =
    subst (λ j. (node ns j ≡ None) × (j < length ns)) (sym e) (can.free n (or_left (n == n) (has n children || has n next) (eq-eqb n n refl)))

module _ (t : NameTable) (old mid : Nodes) (p place depth : ℕ) (rows : List PartRow) (f : Forest) (left : List PartRow) (h : HoldsOne t old p depth rows f left)
    (row : PartRow) (is : row ≡ get_or rows 0 row) where
  pub free : (node old row.number ≡ None) × (row.number < length old)
  free = one_free old p f h.can h.one row.number (row_number t depth rows f left row h.are h.one is).0

  pub level : row.depth ≤ 129
  level =
      let e = (row_number t depth rows f left row h.are h.one is).1 in let l = h.level h.can.it h.can.is in let k = h.can.high in omega (arith, e, l, k)

  -- a text
  module _ (chars : List ℕ) (c : row.content ≡ contents.Chars chars) where
    pub text_is : f ≡ text row.number chars none
    text_is = text_row t depth rows f left row chars h.are h.one is c

    pub text_put : Inserts old mid p place row.number (contents.Chars chars) → AreSound mid → Planted t old mid p (before place) f
    text_put i sound = subst (Planted t old mid p (before place)) (sym text_is) (planted_text t old mid p place row.number h.can.it h.can.is chars i sound)

    pub text_count : 1 ≡ count f
    text_count = let e = ap count text_is in omega (arith, e)

  -- an element
  module _ (parts : Element) (c : row.content ≡ contents.Element parts) where
    pub own : ElementRow t depth rows f left row parts
    own = element_row t depth rows f left row parts h.are h.one is c

    abbrev pub whole : Forest
    whole = element row.number (own).name (own).bindings (own).attributes (own).children none

    pub can_whole : CanPlant old p whole
    can_whole = subst (CanPlant old p) (own).is h.can

    pub element_count : (n : ℕ) → n ≡ count (own).children → n + 1 ≡ count f
    element_count n e = let k = ap count (own).is in omega (arith, e, k)

    module _ (i : Inserts old mid p place row.number (contents.Element parts)) (sound : AreSound mid) where
      pub holds_below : (deep : ℕ) → deep ≡ row.depth + 1 → Holds t mid row.number deep (drop 1 rows) (own).children left
      holds_below deep e =
          let d : deep ≡ depth + 1 = e ∙ ap (λ k. k + 1) (row_number t depth rows f left row h.are h.one is).1 in
          subst (λ k. Holds t mid row.number k (drop 1 rows) (own).children left) (sym d) (record {
            are = (own).below;
            stops = h.stops;
            can = can_children old mid p place row.number (contents.Element parts) (own).name (own).bindings (own).attributes (own).children can_whole i sound;
            level = λ it at.
                let k = ap (λ (x : Node). x.depth) (same_Some it (record { parent = Some p; depth = h.can.it.depth + 1; content = contents.Element parts; children = [] }) (sym at ∙ i.child h.can.it h.can.is)) in
                let l = h.level h.can.it h.can.is in omega (arith, k, l);
          })

      outside : ((row.number == p) ≡ false) × ((has p (own).children || false) ≡ false)
      outside = or_parts (row.number == p) (has p (own).children || false) (parent_outside old p whole can_whole)

      pub element_put : (new : Nodes) → Planted t mid new row.number at_end (own).children → Planted t old new p (before place) f
      element_put new below =
          subst (Planted t old new p (before place)) (sym (own).is)
          (planted_element t old mid p place row.number h.can.it h.can.is new parts (own).name (own).bindings (own).attributes (own).children i below
          (or_parts (has p (own).children) false (outside).1).0 (λ e. true≢false (sym (eq-eqb row.number p (sym e)) ∙ (outside).0)) (own).called)
