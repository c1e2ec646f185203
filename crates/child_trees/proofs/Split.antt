-- A tree whose top is a fork, and its two sides.
use Rattle.std.proofs.Common.{◌≡◌, ◌≢◌, ℕ, ◌+◌, ◌-◌, ◌^◌, ◌<◌, ◌≤◌, List, length, refl, sym, ap, ◌∙◌, subst, inl, inr, arith}
use Rattle.leaf_trees.specs.declared.node.Node.{Node}
use Rattle.leaf_trees.specs.Tree.{Item, Tree, leaf, fork, root, size, height, marked_items, Has, Apart}
use Rattle.leaf_trees.specs.Arena.{at}
use Rattle.leaf_trees.proofs.Forest.{has_within}
use Rattle.leaf_trees.proofs.Held.{Has-root, height_at, counts_at}
use Rattle.leaf_trees.proofs.Told.{marked_counted}
use Rattle.child_trees.specs.Cells.{CellMaps, map_at}
use Rattle.child_trees.specs.Sums.{HasCells, HasSums, AreSums}

module _ (n : ℕ) (ns : List Node) (top : ℕ) (t : Tree) (h : HasCells n ns top t) where
  pub top_within : top < length ns
  top_within = subst (λ i. i < length ns) h.has.top_is (has_within ns t h.has.holds (root t) (Has-root t))

  pub top_has_cell : top < n
  top_has_cell = subst (λ i. i < n) h.has.top_is (h.within (root t) (Has-root t))

  pub top_height : (at ns top).height ≡ height t
  top_height = ap (λ i. (at ns i).height) (sym h.has.top_is) ∙ height_at ns t h.has.holds

  pub top_size : (at ns top).counts.leaves ≡ size t
  top_size = ap (λ i. (at ns i).counts.leaves) (sym h.has.top_is) ∙ ap (λ c. c.leaves) (counts_at ns t h.has.holds)

-- the two sides below a top that is a fork
pub record Sides (n : ℕ) (ns : List Node) (top : ℕ) (t : Tree) : Type 0 where
  pub l : Tree
  pub r : Tree
  pub is : t ≡ fork top l r
  pub left : HasCells n ns (at ns top).left l
  pub right : HasCells n ns (at ns top).right r
  pub left_size : (at ns (at ns top).left).counts.leaves ≡ size l
  pub left_lower : (at ns (at ns top).left).height < (at ns top).height
  pub right_lower : (at ns (at ns top).right).height < (at ns top).height
  pub apart : Apart (fork top l r)
  pub few : size l + size r < 2 ^ 32

sides_of : (n : ℕ) (ns : List Node) (top : ℕ) (t : Tree) → HasCells n ns top t → 0 < height t → Sides n ns top t
sides_of n ns top (leaf x) h high = absurd (omega arith)
sides_of n ns top (fork i l r) h high = record {
  l = l;
  r = r;
  is = ap (λ x. fork x l r) h.has.top_is;
  left = lh;
  right = rh;
  left_size = top_size n ns (at ns top).left l lh;
  left_lower = omega (arith, top_height n ns (at ns top).left l lh, top_height n ns top (fork i l r) h);
  right_lower = omega (arith, top_height n ns (at ns top).right r rh, top_height n ns top (fork i l r) h);
  apart = subst (λ x. Apart (fork x l r)) h.has.top_is h.has.apart;
  few = h.has.few;
}
  where
    here : at ns top ≡ at ns i
    here = ap (at ns) (sym h.has.top_is)

    lh : HasCells n ns (at ns top).left l
    lh = record {
      has = record { holds = h.has.holds.1; apart = h.has.apart.3; top_is = sym (ap (λ (m : Node). m.left) here ∙ h.has.holds.0.left); few = omega (arith, h.has.few) };
      within = λ j k. h.within j (inr (inl k));
    }

    rh : HasCells n ns (at ns top).right r
    rh = record {
      has = record { holds = h.has.holds.2; apart = h.has.apart.4; top_is = sym (ap (λ (m : Node). m.right) here ∙ h.has.holds.0.right); few = omega (arith, h.has.few) };
      within = λ j k. h.within j (inr (inr k));
    }

-- the top of a tree is a fork where the node's height says so
pub sides : (n : ℕ) (ns : List Node) (top : ℕ) (t : Tree) → HasCells n ns top t → 0 < (at ns top).height → Sides n ns top t
sides n ns top t h high = sides_of n ns top t h (omega (arith, high, top_height n ns top t h))

-- or the size
pub sides_by_size : (n : ℕ) (ns : List Node) (top : ℕ) (t : Tree) → HasCells n ns top t → 1 < size t → Sides n ns top t
sides_by_size n ns top (leaf x) h many = absurd (omega arith)
sides_by_size n ns top (fork i l r) h many = sides_of n ns top (fork i l r) h (omega arith)

module _ {Shape Map : Type 0} (unit : Shape → Map) (join : Map → Map → Map) (v : CellMaps Shape Map) (ns : List Node) (top : ℕ) where
  -- the sums of the two sides, and the map at the top
  pub record SumsOf (l r : Tree) : Type 0 where
    pub left : HasSums unit join v ns (at ns top).left l
    pub right : HasSums unit join v ns (at ns top).right r
    pub sum : map_at unit v top ≡ join (map_at unit v (root l)) (map_at unit v (root r))

  pub side_sums : (t : Tree) (h : HasSums unit join v ns top t) (s : Sides (length v.maps) ns top t) → SumsOf s.l s.r
  side_sums t h s =
      let e : AreSums join (map_at unit v) (fork top s.l s.r) = subst (AreSums join (map_at unit v)) s.is h.sums in
      record { left = record { cells = s.left; sums = e.1 }; right = record { cells = s.right; sums = e.2 }; sum = e.0 }

  module _ (t : Tree) (h : HasSums unit join v ns top t) where
    -- a place within the tree, and not at its ends, is in a fork
    pub inner : (place : ℕ) → place ≢ 0 → place ≢ (at ns top).counts.leaves → place ≤ size t → Sides (length v.maps) ns top t
    inner place first last le = sides_by_size (length v.maps) ns top t h.cells (omega (arith, first, last, le, top_size (length v.maps) ns top t h.cells))

    pub left_upto : (s : Sides (length v.maps) ns top t) (place : ℕ) → place ≤ (at ns (at ns top).left).counts.leaves → (x : Tree) × HasSums unit join v ns (at ns top).left x × (place ≤ size x)
    left_upto s place le = (s.l, (side_sums t h s).left, omega (arith, le, s.left_size))

    pub right_upto : (s : Sides (length v.maps) ns top t) (place : ℕ) → place ≤ size t → (x : Tree) × HasSums unit join v ns (at ns top).right x × (place - (at ns (at ns top).left).counts.leaves ≤ size x)
    right_upto s place le = (s.r, (side_sums t h s).right, omega (arith, le, s.left_size, ap size s.is))

-- two trees below one top are of one size
pub same_size : (n : ℕ) (ns : List Node) (top : ℕ) (t u : Tree) → HasCells n ns top t → HasCells n ns top u → size t ≡ size u
same_size n ns top t u h k = sym (top_size n ns top t h) ∙ top_size n ns top u k

-- the top is none of its sides
pub top_not_left : (n : ℕ) (ns : List Node) (top : ℕ) (t : Tree) (s : Sides n ns top t) → top ≢ (at ns top).left
top_not_left n ns top t s e = s.apart.0 (subst (Has s.l) (s.left.has.top_is ∙ sym e) (Has-root s.l))

pub top_not_right : (n : ℕ) (ns : List Node) (top : ℕ) (t : Tree) (s : Sides n ns top t) → top ≢ (at ns top).right
top_not_right n ns top t s e = s.apart.1 (subst (Has s.r) (s.right.has.top_is ∙ sym e) (Has-root s.r))

pub top_marked : (n : ℕ) (ns : List Node) (top : ℕ) (t : Tree) → HasCells n ns top t → (at ns top).counts.marked ≡ length (marked_items t)
top_marked n ns top t h = ap (λ i. (at ns i).counts.marked) (sym h.has.top_is) ∙ ap (λ c. c.marked) (counts_at ns t h.has.holds) ∙ marked_counted t

-- a tree whose top is a leaf
pub record IsOne (top : ℕ) (t : Tree) : Type 0 where
  pub item : Item
  pub is : t ≡ leaf item
  pub number : item.number ≡ top

pub one_leaf : (n : ℕ) (ns : List Node) (top : ℕ) (t : Tree) → HasCells n ns top t → (at ns top).height ≡ 0 → IsOne top t
one_leaf n ns top (leaf x) h low = record { item = x; is = refl; number = h.has.top_is }
one_leaf n ns top (fork i l r) h low = absurd (omega (arith, low, top_height n ns top (fork i l r) h))
