-- The rows of siblings, read one after the other.
use Rattle.std.proofs.Common.{◌≡◌, ◌≢◌, ◌⊎◌, ℕ, zero, suc, ◌+◌, ◌-◌, ◌<◌, ◌≤◌, List, [], ◌∷◌, ◌++◌, length, drop, map, get_or, sym, ap, ◌∙◌, subst, Option, Some, None, refl, inl, inr, arith, append_assoc, append-nil, max}
use Rattle.std.specs.Prelude.{slice_get}
use Rattle.std.proofs.lemmas.Option.{same_Some, none-some, slice_get-get_or, slice_get_past}
use Rattle.xs_names.specs.Names.{NameTable}
use Rattle.tree_rows.specs.Forest.{Forest, none, text, element, Document, count, deepest_of}
use Rattle.tree_rows.specs.Rows.{rows_of, siblings}
use Rattle.tree_rows.specs.RowLaws.{siblings-all}
use Rattle.tree_rows.specs.Whole.{HasRoot, IsTree}
use Rattle.tree_rows.specs.declared.name.Expanded.{Expanded}
use Rattle.tree_rows.specs.declared.row.Attribute.{Attribute}
use Rattle.tree_rows.specs.declared.row.Binding.{Binding}
use Rattle.tree_rows.specs.declared.row.Row.{Row}
use Rattle.tree_rows.specs.declared.row.Content.TheVariants as rows
use Rattle.tree_building.specs.Shape.{AreSound, deepest_row}
use Rattle.tree_building.proofs.RowCounts.{deepest-rows}
use Rattle.doc_nodes.specs.declared.content.Content.{Content}
use Rattle.doc_nodes.specs.declared.content.Content.TheVariants as contents
use Rattle.doc_nodes.specs.Nodes.{Node, Nodes, node, IsNode, Has, children_by, depth_by}
use Rattle.doc_changes.specs.Stands.{firsts, IsElement, StandFor, StandsFor, expanded_of, attribute_of, binding_of}
use Rattle.doc_tree.specs.NodeRows.{row_in, IsNamed}
use Rattle.doc_tree.specs.inside.Under.{IsUnder}

-- the first of some siblings, what is below it, and its next siblings
pub record IsFirst (t : NameTable) (ns : Nodes) (left : Forest) (c : ℕ) : Type 0 where
  pub it : Node
  pub is : IsNode ns c it
  pub known : IsNamed t it.content
  pub below : Forest
  pub next : Forest
  pub children : it.children ≡ firsts below
  pub stand_below : StandFor t ns below
  pub stand_next : StandFor t ns next
  pub firsts_are : firsts left ≡ c ∷ firsts next
  pub rows_are : (k : ℕ) → rows_of k left ≡ row_in t c k it.content ∷ (rows_of (k + 1) below ++ rows_of k next)
  pub size : count left ≡ 1 + count below + count next
  pub high : (k : ℕ) → (below ≡ none) ⊎ (k ≤ deepest_of k left)
  pub deep : (k : ℕ) → deepest_of (k + 1) below ≤ deepest_of k left
  pub later : (k : ℕ) → deepest_of k next ≤ deepest_of k left

text_first : (t : NameTable) (ns : Nodes) (n : ℕ) (chars : List ℕ) (next : Forest) → StandFor t ns (text n chars next) → IsFirst t ns (text n chars next) n
text_first t ns n chars next s = record {
  it = s.0.text;
  is = s.0.is;
  known = subst (IsNamed t) (sym s.0.content) tt;
  below = none;
  next = next;
  children = s.0.no_children;
  stand_below = tt;
  stand_next = s.1;
  firsts_are = refl;
  rows_are = λ k. ap (λ c. row_in t n k c ∷ rows_of k next) (sym s.0.content);
  size = omega arith;
  high = λ k. inl refl;
  deep = λ k. omega arith;
  later = λ k. omega arith;
}

element_first : (t : NameTable) (ns : Nodes) (n : ℕ) (name : Expanded) (bindings : List Binding) (attributes : List Attribute) (children next : Forest)
    → StandFor t ns (element n name bindings attributes children next) → IsFirst t ns (element n name bindings attributes children next) n
element_first t ns n name bindings attributes children next s =
    let e = s.0 in
    record {
      it = e.it;
      is = e.is;
      known = subst (IsNamed t) (sym e.content) e.known;
      below = children;
      next = next;
      children = e.children_are;
      stand_below = s.1;
      stand_next = s.2;
      firsts_are = refl;
      rows_are = λ k.
          (λ i. record { number = n; depth = k; content = rows.Element (sym e.name_is i); bindings = sym e.bindings_are i; attributes = sym e.attributes_are i } ∷ (rows_of (k + 1) children ++ rows_of k next))
          ∙ ap (λ c. row_in t n k c ∷ (rows_of (k + 1) children ++ rows_of k next)) (sym e.content);
      size = omega arith;
      high = λ k. inr (omega arith);
      deep = λ k. omega arith;
      later = λ k. omega arith;
    }

pub first_of : (t : NameTable) (ns : Nodes) (left : Forest) (c : ℕ) → slice_get (firsts left) 0 ≡ Some c → StandFor t ns left → IsFirst t ns left c
first_of t ns none c e s = absurd (none-some c e)
first_of t ns (text n chars next) c e s = subst (IsFirst t ns (text n chars next)) (same_Some n c e) (text_first t ns n chars next s)
first_of t ns (element n name bindings attributes children next) c e s =
    subst (IsFirst t ns (element n name bindings attributes children next)) (same_Some n c e) (element_first t ns n name bindings attributes children next s)

-- items from a place on
got_from : (xs : List ℕ) (i : ℕ) → slice_get xs i ≡ slice_get (drop i xs) 0
got_from [] zero = refl
got_from [] (suc i) = refl
got_from (x ∷ xs) zero = refl
got_from (x ∷ xs) (suc i) = got_from xs i

drop_next : (xs ys : List ℕ) (i c : ℕ) → drop i xs ≡ c ∷ ys → drop (suc i) xs ≡ ys
drop_next [] ys zero c e = let l = ap length e in absurd (omega (arith, l))
drop_next [] ys (suc i) c e = let l = ap length e in absurd (omega (arith, l))
drop_next (x ∷ xs) ys zero c e = cc e
drop_next (x ∷ xs) ys (suc i) c e = drop_next xs ys i c e

-- the rows of some of the children, with all below them, were read, and these are left
pub record ReadSoFar (t : NameTable) (ns : Nodes) (depth : ℕ) (old now : List Row) (place : ℕ) (below : Forest) : Type 0 where
  pub left : Forest
  pub rows : now ++ rows_of (depth + 1) left ≡ old ++ rows_of (depth + 1) below
  pub there : drop place (firsts below) ≡ firsts left
  pub stand : StandFor t ns left
  pub deep : deepest_of (depth + 1) left ≤ deepest_of (depth + 1) below
  pub few : place + count left ≤ count below

pub begun : (t : NameTable) (ns : Nodes) (n depth : ℕ) (old : List Row) (below : Forest) → IsUnder t ns n below → ReadSoFar t ns depth old old 0 below
begun t ns n depth old below under = record {
  left = below;
  rows = refl;
  there = refl;
  stand = under.stand;
  deep = omega arith;
  few = omega arith;
}

-- the child of a place, and that there is none behind the last
pub come_to : (xs ys : List ℕ) (k c : ℕ) → xs ≡ ys → k < length xs → c ≡ get_or xs k 0 → Some c ≡ slice_get ys k
come_to xs ys k c same lt is = ap Some is ∙ sym (slice_get-get_or xs k 0 lt) ∙ ap (λ zs. slice_get zs k) same

pub past_all : (xs ys : List ℕ) (k : ℕ) → xs ≡ ys → length xs ≤ k → None ≡ slice_get ys k
past_all xs ys k same le = let size = ap length same in sym (slice_get_past ys k (omega (arith, size, le)))

no_firsts : (f : Forest) → None ≡ slice_get (firsts f) 0 → f ≡ none
no_firsts none e = refl
no_firsts (text n chars next) e = absurd (none-some n e)
no_firsts (element n name bindings attributes children next) e = absurd (none-some n e)

module _ (t : NameTable) (ns : Nodes) (n depth : ℕ) (old now : List Row) (place : ℕ) (below : Forest) (under : IsUnder t ns n below) (level : depth ≡ depth_by (node ns n))
    (so : ReadSoFar t ns depth old now place below) where
  got : slice_get (children_by (node ns n)) place ≡ slice_get (firsts so.left) 0
  got = ap (λ o. slice_get (children_by o) place) under.is ∙ ap (λ l. slice_get l place) under.children ∙ got_from (firsts below) place ∙ ap (λ l. slice_get l 0) so.there

  pub ended : None ≡ slice_get (children_by (node ns n)) place → now ≡ old ++ rows_of (depth + 1) below
  ended e =
      let none_left = no_firsts so.left (e ∙ got) in
      sym (append-nil now) ∙ ap (λ f. now ++ rows_of (depth + 1) f) (sym none_left) ∙ so.rows

  module _ (c : ℕ) (e : Some c ≡ slice_get (children_by (node ns n)) place) where
    pub first : IsFirst t ns so.left c
    first = first_of t ns so.left c (sym (e ∙ got)) so.stand

    is_child : Has c under.it.children
    is_child = in_drop under.it.children place c (sym (got_from under.it.children place) ∙ ap (λ o. slice_get (children_by o) place) (sym under.is) ∙ sym e)
      where
        has_got : (xs : List ℕ) → slice_get xs 0 ≡ Some c → Has c xs
        has_got [] q = absurd (none-some c q)
        has_got (x ∷ xs) q = inl (same_Some x c q)

        in_drop : (xs : List ℕ) (i c : ℕ) → slice_get (drop i xs) 0 ≡ Some c → Has c xs
        in_drop [] zero c q = absurd (none-some c q)
        in_drop [] (suc i) c q = absurd (none-some c q)
        in_drop (x ∷ xs) zero c q = inl (same_Some x c q)
        in_drop (x ∷ xs) (suc i) c q = inr (in_drop xs i c q)

    it_depth : under.it.depth ≡ depth
    it_depth = sym (ap depth_by under.is) ∙ sym level

    pub child_depth : first.it.depth ≡ depth + 1
    child_depth =
        let d = under.sound.down n c under.it under.is is_child in
        ap (λ (x : Node). x.depth) (same_Some first.it d.child (sym first.is ∙ d.is)) ∙ d.below ∙ ap (λ k. k + 1) it_depth

    pub child_level : depth + 1 ≡ depth_by (node ns c)
    child_level = sym (ap depth_by first.is ∙ child_depth)

    shallow : deepest_of (depth + 1) so.left ≤ 128
    shallow = let a = so.deep in let b = under.shallow in let d = ap (λ k. deepest_of (k + 1) below) it_depth in omega (arith, a, b, d)

    high_below : (first.below ≡ none) ⊎ (first.it.depth ≤ 128)
    high_below = by (first.high (depth + 1))
      where
        by : (first.below ≡ none) ⊎ (depth + 1 ≤ deepest_of (depth + 1) so.left) → (first.below ≡ none) ⊎ (first.it.depth ≤ 128)
        by (inl q) = inl q
        by (inr l) = inr (let a = shallow in let d = child_depth in omega (arith, l, a, d))

    pub under_child : IsUnder t ns c first.below
    under_child = record {
      it = first.it;
      is = first.is;
      children = first.children;
      stand = first.stand_below;
      high = high_below;
      shallow = (let a = first.deep (depth + 1) in let b = shallow in let d = ap (λ k. deepest_of (k + 1) first.below) child_depth in omega (arith, a, b, d));
      few = (let a = first.size in let b = so.few in let d = under.few in omega (arith, a, b, d));
      sound = under.sound;
    }

    -- a node with children stands no deeper than the limit
    pub high_here : depth ≤ 128
    high_here = by under.high
      where
        by : (below ≡ none) ⊎ (under.it.depth ≤ 128) → depth ≤ 128
        by (inl q) =
            let a = ap length (sym so.there ∙ ap (λ f. drop place (firsts f)) q) in let b = ap length first.firsts_are in let d = empty place in
            absurd (omega (arith, a, b, d))
          where
            empty : (i : ℕ) → length (drop i (firsts none)) ≡ 0
            empty zero = refl
            empty (suc i) = refl
        by (inr l) = let d = it_depth in omega (arith, l, d)

    pub lower : 130 - depth_by (node ns c) < 130 - depth_by (node ns n)
    lower = let a = child_level in let b = high_here in let d = level in omega (arith, a, b, d)

    pub next_so : (row : Row) (after : List Row) → row ≡ row_in t c (depth + 1) first.it.content → after ≡ (now ++ row ∷ []) ++ rows_of (depth + 1 + 1) first.below
        → ReadSoFar t ns depth old after (place + 1) below
    next_so row after r a = record {
      left = first.next;
      rows =
          ap (λ l. l ++ rows_of (depth + 1) first.next) a
          ∙ append_assoc (now ++ row ∷ []) (rows_of (depth + 1 + 1) first.below) (rows_of (depth + 1) first.next)
          ∙ append_assoc now (row ∷ []) (rows_of (depth + 1 + 1) first.below ++ rows_of (depth + 1) first.next)
          ∙ ap (λ x. now ++ x ∷ (rows_of (depth + 1 + 1) first.below ++ rows_of (depth + 1) first.next)) r
          ∙ ap (λ l. now ++ l) (sym (first.rows_are (depth + 1)))
          ∙ so.rows;
      there = ap (λ k. drop k (firsts below)) one_more ∙ drop_next (firsts below) (firsts first.next) place c (so.there ∙ first.firsts_are);
      stand = first.stand_next;
      deep = (let x = first.later (depth + 1) in let y = so.deep in omega (arith, x, y));
      few = (let x = first.size in let y = so.few in omega (arith, x, y));
    }
      where
        one_more : place + 1 ≡ suc place
        one_more = omega arith

-- the root of a document
pub record IsRoot (t : NameTable) (ns : Nodes) (d : Document) : Type 0 where
  pub it : Node
  pub is : IsNode ns 1 it
  pub level : 1 ≡ depth_by (node ns 1)
  pub known : IsNamed t it.content
  pub below : Forest
  pub under : IsUnder t ns 1 below
  pub rows_are : rows_of 1 d.forest ≡ row_in t 1 1 it.content ∷ rows_of 2 below

pub root_of : (t : NameTable) (ns : Nodes) (d : Document) → StandsFor t ns d → IsRoot t ns d
unfolding element_first
root_of t ns d z = by d.forest refl z.tree.root z.nodes
  where
    by : (f : Forest) → d.forest ≡ f → HasRoot f → StandFor t ns f → IsRoot t ns d
    by none e r s = absurd r
    by (text n chars next) e r s = absurd r
    by (element n name bindings attributes children next) e r s =
        let f = element_first t ns n name bindings attributes children next s in
        let here : IsNode ns 1 f.it = ap (node ns) (sym r.0) ∙ f.is in
        let top = (z.root f.it here).1 in
        let deep = ap (deepest_of 1) e in let size = ap count e in let shallow = z.tree.shallow in let few = z.tree.few in
        let level = ap (λ k. deepest_of (k + 1) children) top in
        record {
          it = f.it;
          is = here;
          level = sym (ap depth_by here ∙ top);
          known = f.known;
          below = children;
          under = record {
            it = f.it;
            is = here;
            children = f.children;
            stand = f.stand_below;
            high = inr (omega (arith, top));
            shallow = omega (arith, deep, shallow, level);
            few = omega (arith, size, few);
            sound = z.links;
          };
          rows_are =
              ap (rows_of 1) e ∙ f.rows_are 1
              ∙ ap (λ k. row_in t k 1 f.it.content ∷ (rows_of 2 children ++ rows_of 1 next)) r.0
              ∙ ap (λ g. row_in t 1 1 f.it.content ∷ (rows_of 2 children ++ rows_of 1 g)) r.1
              ∙ ap (λ l. row_in t 1 1 f.it.content ∷ l) (append-nil (rows_of 2 children));
        }

-- the root's row, and the rows below it
pub all_rows : (t : NameTable) (ns : Nodes) (d : Document) (r : IsRoot t ns d) (start pushed rows : List Row) (row : Row) → start ≡ [] → pushed ≡ start ++ row ∷ []
    → row ≡ row_in t 1 1 r.it.content → rows ≡ pushed ++ rows_of 2 r.below → rows ≡ rows_of 1 d.forest
all_rows t ns d r start pushed rows row empty push is below =
    below ∙ ap (λ l. l ++ rows_of 2 r.below) (push ∙ ap (λ l. l ++ row ∷ []) empty ∙ ap (λ x. x ∷ []) is) ∙ sym r.rows_are

-- the rows are those of the document
pub tree_is : (d : Document) (rows : List Row) (free : ℕ) → rows ≡ rows_of 1 d.forest → free ≡ d.next_free → record { forest = siblings rows 1; next_free = free } ≡ d
tree_is d rows free e n = λ i. record { forest = (ap (λ l. siblings l 1) e ∙ siblings-all d.forest) i; next_free = n i }

pub sound_rows : (d : Document) (rows : List Row) → IsTree d → rows ≡ rows_of 1 d.forest → AreSound rows
sound_rows d rows tree e = record {
  whole = e ∙ ap (rows_of 1) (sym (ap (λ l. siblings l 1) e ∙ siblings-all d.forest));
  shallow = (let a = ap (deepest_row 0) e in let b = deepest-rows 0 1 d.forest in let s = tree.shallow in omega (arith, a, b, s));
}
