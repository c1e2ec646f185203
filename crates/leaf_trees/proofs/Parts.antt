-- The two sides of a tree that an arena holds.
use Rattle.std.proofs.Common.{◌≡◌, ℕ, ◌<◌, List, length, refl, sym, subst, arith}
use Rattle.leaf_trees.specs.declared.node.Node.{Node}
use Rattle.leaf_trees.specs.declared.side.Side.{Side}
use Rattle.leaf_trees.specs.declared.side.Side.TheVariants.{Left, Right}
use Rattle.leaf_trees.specs.Tree.{Item, Tree, leaf, fork, height, counts}
use Rattle.leaf_trees.specs.Side.{other, below, on}
use Rattle.leaf_trees.specs.Arena.{at, HasTree}
use Rattle.leaf_trees.specs.Change.{Sides}
use Rattle.leaf_trees.proofs.Held.{positive, height_of_top, counts_of_top, within_of_top, left_height, right_height}
use Rattle.leaf_trees.proofs.Turns.{forked, sides_held, opened, size-sides}

-- a tree of height 0
pub leaf_of : (t : Tree) → height t ≡ 0 → (y : Item) × (t ≡ leaf y)
leaf_of (leaf y) e = (y, refl)
leaf_of (fork i l r) e = absurd (omega arith)

pub record Parts (ns : List Node) (top : ℕ) (t : Tree) : Type 0 where
  pub l : Tree
  pub r : Tree
  pub is : t ≡ fork top l r
  pub sides : Sides ns top (at ns top).left (at ns top).right l r
  pub whole : HasTree ns top (fork top l r)
  pub left : HasTree ns (at ns top).left l
  pub right : HasTree ns (at ns top).right r
  pub counts_left : (at ns (at ns top).left).counts ≡ counts l
  pub counts_right : (at ns (at ns top).right).counts ≡ counts r
  pub left_lower : (at ns (at ns top).left).height < (at ns top).height
  pub right_lower : (at ns (at ns top).right).height < (at ns top).height
  pub left_within : (at ns top).left < length ns
  pub right_within : (at ns top).right < length ns

module _ (ns : List Node) (top : ℕ) (t : Tree) (H : HasTree ns top t) where
  pub top_height : (at ns top).height ≡ height t
  top_height = height_of_top ns t top H.holds H.top_is

  pub top_counts : (at ns top).counts ≡ counts t
  top_counts = counts_of_top ns t top H.holds H.top_is

  pub top_within : top < length ns
  top_within = within_of_top ns t top H.holds H.top_is

  pub parts : 0 < (at ns top).height → Parts ns top t
  parts h =
      let f = forked t top H.top_is (rw (sym top_height) h) in
      let H' = subst (HasTree ns top) f.is H in
      let e = H'.holds.0.height_is in
      let sides = sides_held ns top f.l f.r H'.holds H'.apart (let few = H'.few in omega arith) in
      let a = left_height ns top (at ns top).left (at ns top).right f.l f.r sides in
      let b = right_height ns top (at ns top).left (at ns top).right f.l f.r sides in
      record {
        l = f.l;
        r = f.r;
        is = f.is;
        sides = sides;
        whole = H';
        left = record { holds = H'.holds.1; apart = H'.apart.3; top_is = sym H'.holds.0.left; few = (let few = H'.few in omega (arith, positive f.r)) };
        right = record { holds = H'.holds.2; apart = H'.apart.4; top_is = sym H'.holds.0.right; few = (let few = H'.few in omega (arith, positive f.l)) };
        counts_left = counts_of_top ns f.l (at ns top).left H'.holds.1 (sym H'.holds.0.left);
        counts_right = counts_of_top ns f.r (at ns top).right H'.holds.2 (sym H'.holds.0.right);
        left_lower = omega arith;
        right_lower = omega arith;
        left_within = within_of_top ns f.l (at ns top).left H'.holds.1 (sym H'.holds.0.left);
        right_within = within_of_top ns f.r (at ns top).right H'.holds.2 (sym H'.holds.0.right);
      }

-- a tree that is no leaf: its side a, and b, the other one
pub record Down (s : Side) (ns : List Node) (top a b : ℕ) (t : Tree) : Type 0 where
  pub l : Tree
  pub r : Tree
  pub is : t ≡ fork top l r
  pub left_counts : (at ns (at ns top).left).counts ≡ counts l
  pub both : Sides ns top a b (on s l r) (on (other s) l r)
  pub tree : HasTree ns a (on s l r)
  pub lower : (at ns a).height < (at ns top).height
  pub there_counts : (at ns b).counts ≡ counts (on (other s) l r)

side_lower : (s : Side) (ns : List Node) (top : ℕ) (t : Tree) (P : Parts ns top t) → (at ns (below s (at ns top))).height < (at ns top).height
side_lower Left ns top t P = P.left_lower
side_lower Right ns top t P = P.right_lower

pub down : (s : Side) (ns : List Node) (top a b : ℕ) (t : Tree) → HasTree ns top t → 0 < (at ns top).height → a ≡ below s (at ns top) → b ≡ below (other s) (at ns top) → Down s ns top a b t
down s ns top a b t H h ea eb =
    let P = parts ns top t H h in
    let O = opened s ns top P.l P.r P.whole.holds P.whole.apart P.sides.few in
    let few = P.sides.few in let n = size-sides s P.l P.r in
    let both : Sides ns top a b (on s P.l P.r) (on (other s) P.l P.r) = rw (ea, eb) O in
    record {
      l = P.l;
      r = P.r;
      is = P.is;
      left_counts = P.counts_left;
      both = both;
      tree = record { holds = both.holds_left; apart = both.apart.3; top_is = both.left; few = omega arith };
      lower = subst (λ x. (at ns x).height < (at ns top).height) (sym ea) (side_lower s ns top t P);
      there_counts = counts_of_top ns (on (other s) P.l P.r) b both.holds_right both.right;
    }
