-- A leaf put into a tree.
use Rattle.std.proofs.Common.{◌≡◌, ℕ, zero, suc, ◌+◌, ◌-◌, ◌<◌, ◌≤◌, max, true, false, cond, List, ◌++◌, insert, refl, sym, ap, ◌∙◌, subst, inl, inr, arith}
use Rattle.std.specs.Prelude.{nat_lt, nat_le}
use Rattle.std.proofs.lemmas.Bool.{cases_lt, cases_eq}
use Rattle.std.proofs.lemmas.List.Edits.{insert-append_left, insert-append_right}
use Rattle.leaf_trees.specs.declared.node.Node.{Node}
use Rattle.leaf_trees.specs.declared.side.Side.{Side}
use Rattle.leaf_trees.specs.declared.side.Side.TheVariants.{Left, Right}
use Rattle.leaf_trees.specs.Tree.{Item, Tree, leaf, fork, size, height, leaves, Has, IsAvl}
use Rattle.leaf_trees.specs.Side.{other, below, on, fork_on}
use Rattle.leaf_trees.specs.Balance.{put_in, balanced}
use Rattle.leaf_trees.specs.Arena.{at, IsTaken, IsUsed}
use Rattle.leaf_trees.specs.Change.{Sides, Becomes, Ready, HasRoom, WritesLeaf}
use Rattle.leaf_trees.proofs.Held.{height_of_top, counts_of_top, Holds-same}
use Rattle.leaf_trees.proofs.Turns.{new_first, then_first, forked, opened, in_side, size-sides}
use Rattle.leaf_trees.proofs.Lean.{le_is, gt_is}
use Rattle.leaf_trees.proofs.Leaned.{even_sides, height-fork_on}
use Rattle.leaf_trees.proofs.Balanced.{size-balanced, leaves-balanced, length-leaves, balances}

pub size-put_in : (i : ℕ) (x : Item) (k : ℕ) (t : Tree) → size (put_in i x k t) ≡ size t + 1
size-put_in i x k (leaf y) = elim (nat_lt 0 k) as (λ b. size (cond b (fork i (leaf y) (leaf x)) (fork i (leaf x) (leaf y))) ≡ 2) [ true ↦ refl | false ↦ refl ]
size-put_in i x k (fork b l r) =
    elim (nat_le k (size l)) as (λ c. size (cond c (balanced Left b (put_in i x k l) r) (balanced Right b (put_in i x (k - size l) r) l)) ≡ size l + size r + 1) [
      | true ↦ (let e = size-put_in i x k l in let f = size-balanced Left b (put_in i x k l) r in omega arith)
      | false ↦ (let e = size-put_in i x (k - size l) r in let f = size-balanced Right b (put_in i x (k - size l) r) l in omega arith)
    ]

-- the item comes before the place
pub leaves-put_in : (i : ℕ) (x : Item) (k : ℕ) (t : Tree) → k ≤ size t → leaves (put_in i x k t) ≡ insert (leaves t) k x
leaves-put_in i x zero (leaf y) h = refl
leaves-put_in i x (suc zero) (leaf y) h = refl
leaves-put_in i x (suc (suc k)) (leaf y) h = absurd (omega arith)
leaves-put_in i x k (fork b l r) h =
    elim (cases_lt (size l) k) [
      | inl gt ↦ rw (gt_is k (size l) gt)
          (leaves-balanced Right b (put_in i x (k - size l) r) l ∙ ap (λ (xs : List Item). leaves l ++ xs) (leaves-put_in i x (k - size l) r (omega arith)) ∙ sym (insert-append_right (leaves l) (leaves r) (size l) k x (length-leaves l) (omega arith)))
      | inr le ↦ rw (le_is k (size l) le)
          (leaves-balanced Left b (put_in i x k l) r ∙ ap (λ (xs : List Item). xs ++ leaves r) (leaves-put_in i x k l le) ∙ sym (insert-append_left (leaves l) (leaves r) k x (rw length-leaves le)))
    ]

-- the tree stays balanced, and is at most one level higher
pub record PutsHigh (t now : Tree) : Type 0 where
  pub avl : IsAvl now
  pub least : height t ≤ height now
  pub most : height now ≤ height t + 1

-- the height after a side grew
pub grown : (l r l' r' n : ℕ) → l ≤ r + 1 → r ≤ l + 1 → l ≤ l' → l' ≤ l + 1 → r ≤ r' → r' ≤ r + 1 → max l' r' ≤ n → n ≤ max l' r' + 1 → (l' ≤ r' + 1 → r' ≤ l' + 1 → n ≡ max l' r' + 1) → (max l r + 1 ≤ n) × (n ≤ max l r + 2)
grown l r l' r' n a a' b b' c c' least most even =
    elim (cases_lt (r' + 1) l') [
      | inl h ↦ (omega arith, omega arith)
      | inr h ↦ elim (cases_lt (l' + 1) r') [
        | inl k ↦ (omega arith, omega arith)
        | inr k ↦ (let e = even h k in (omega arith, omega arith))
      ]
    ]

-- one side of a tree was put in
side_grown : (s : Side) (b : ℕ) (t u now : Tree) → IsAvl (fork_on s b t u) → PutsHigh t now → PutsHigh (fork_on s b t u) (balanced s b now u)
side_grown s b t u now avl p =
    let E = even_sides s b t u avl in let a = E.left_most in let a' = E.right_most in let least = p.least in let most = p.most in
    let B = balances s b now u p.avl E.right_avl (omega arith) (omega arith) in
    let g = grown (height t) (height u) (height now) (height u) (height (balanced s b now u)) a a' least most (omega arith) (omega arith) B.least B.most B.even in
    let h = height-fork_on s b t u in
    record { avl = B.avl; least = omega (arith, g.0); most = omega (arith, g.1) }

pub avl-put_in : (i : ℕ) (x : Item) (k : ℕ) (t : Tree) → IsAvl t → PutsHigh t (put_in i x k t)
avl-put_in i x k (leaf y) avl = elim (nat_lt 0 k) as (λ b. PutsHigh (leaf y) (cond b (fork i (leaf y) (leaf x)) (fork i (leaf x) (leaf y)))) [
  | true ↦ record { avl = (omega arith, omega arith, tt, tt); least = omega arith; most = omega arith }
  | false ↦ record { avl = (omega arith, omega arith, tt, tt); least = omega arith; most = omega arith }
]
avl-put_in i x k (fork b l r) avl =
    elim (nat_le k (size l)) as (λ c. PutsHigh (fork b l r) (cond c (balanced Left b (put_in i x k l) r) (balanced Right b (put_in i x (k - size l) r) l))) [
      | true ↦ side_grown Left b l r (put_in i x k l) avl (avl-put_in i x k l avl.2)
      | false ↦ side_grown Right b r l (put_in i x (k - size l) r) avl (avl-put_in i x (k - size l) r avl.3)
    ]

module _ (ns : List Node) (top i : ℕ) (x : Item) (t : Tree) (R : Ready ns top i x t) where
  pub beside_after : Sides ns i top x.number t (leaf x)
  beside_after = record { within = R.new_fork; left = R.top_is; right = refl; holds_left = R.holds; holds_right = R.new_leaf; apart = (R.not_fork, R.differ, record { apart = λ j a e. R.not_leaf (subst (Has t) e a) }, R.apart, tt); few = R.few }

  pub beside_before : Sides ns i x.number top (leaf x) t
  beside_before = record { within = R.new_fork; left = refl; right = R.top_is; holds_left = R.new_leaf; holds_right = R.holds; apart = (R.differ, R.not_fork, record { apart = λ j e a. R.not_leaf (subst (Has t) e a) }, tt, R.apart); few = (let f = R.few in omega arith) }

  top_height : (at ns top).height ≡ height t
  top_height = height_of_top ns t top R.holds R.top_is

  -- where it is a fork
  pub record Sided : Type 0 where
    pub l : Tree
    pub r : Tree
    pub is : t ≡ fork top l r
    pub ready : Ready ns top i x (fork top l r)
    pub before : (at ns (at ns top).left).counts.leaves ≡ size l
    pub left_lower : (at ns (at ns top).left).height < (at ns top).height
    pub right_lower : (at ns (at ns top).right).height < (at ns top).height

  pub sided : 0 < (at ns top).height → Sided
  sided h =
      let f = forked t top R.top_is (rw (sym top_height) h) in
      let R' = subst (Ready ns top i x) f.is R in
      let e = R'.holds.0.height_is in
      let a = height_of_top ns f.l (at ns top).left R'.holds.1 (sym R'.holds.0.left) in
      let b = height_of_top ns f.r (at ns top).right R'.holds.2 (sym R'.holds.0.right) in
      record {
        l = f.l;
        r = f.r;
        is = f.is;
        ready = R';
        before = ap (λ c. c.leaves) (counts_of_top ns f.l (at ns top).left R'.holds.1 (sym R'.holds.0.left));
        left_lower = omega arith;
        right_lower = omega arith;
      }

module _ (s : Side) (ns : List Node) (top i : ℕ) (x : Item) (l r : Tree) (R : Ready ns top i x (fork top l r)) where
  abbrev here : Tree
  here = on s l r

  abbrev there : Tree
  there = on (other s) l r

  abbrev a : ℕ
  a = below s (at ns top)

  abbrev b : ℕ
  b = below (other s) (at ns top)

  both : Sides ns top a b here there
  both = opened s ns top l r R.holds R.apart (let few = R.few in omega arith)

  pub ready_side : Ready ns a i x here
  ready_side = record {
    holds = both.holds_left;
    apart = both.apart.3;
    top_is = both.left;
    new_leaf = R.new_leaf;
    new_fork = R.new_fork;
    differ = R.differ;
    not_fork = λ h. R.not_fork (in_side s top l r i h);
    not_leaf = λ h. R.not_leaf (in_side s top l r x.number h);
    few = (let few = R.few in omega (arith, few, size-sides s l r));
  }

  -- the new nodes and a side
  module _ (k new : ℕ) (ms : List Node) (B : Becomes ns ms new (fork i (leaf x) here) (put_in i x k here)) where
    pub put_sides : Sides ms top new b (put_in i x k here) there
    put_sides = new_first ns ms top new b (fork i (leaf x) here) (put_in i x k here) there (record {
      within = both.within;
      top_is = both.right;
      holds = both.holds_right;
      apart = both.apart.4;
      not_here = both.apart.1;
      not_there = λ h. elim h [ inl e ↦ R.not_fork (inl (sym e)) | inr y ↦ elim y [ inl e ↦ R.not_leaf (inl (sym e)) | inr z ↦ both.apart.0 z ] ];
      disjoint = record { apart = λ j h m. elim h [ inl e ↦ R.not_fork (in_side (other s) top l r i (subst (Has there) e m)) | inr y ↦ elim y [ inl e ↦ R.not_leaf (in_side (other s) top l r x.number (subst (Has there) e m)) | inr z ↦ both.apart.2.apart j z m ] ] };
    }) B (let few = R.few in omega (arith, few, size-put_in i x k here, size-sides s l r))

    pub put_whole : (ks : List Node) (res : ℕ) (now : Tree) → Becomes ms ks res (fork top (put_in i x k here) there) now → Becomes ns ks res (fork i (leaf x) (fork top l r)) now
    put_whole ks res now C = then_first ns ms ks top new res (fork i (leaf x) here) (put_in i x k here) there now (fork i (leaf x) (fork top l r)) B C
        (λ j h. elim h [ inl e ↦ inl e | inr y ↦ elim y [ inl e ↦ inr (inl e) | inr z ↦ inr (inr (in_side s top l r j z)) ] ])
        (inr (inr (inl refl))) (λ j h. inr (inr (in_side (other s) top l r j h)))

-- a tree with room for a leaf, once the leaf is written
pub room_ready : (ns ms : List Node) (list top place i : ℕ) (x : Item) (t : Tree) → HasRoom ns list top place i x.number t → WritesLeaf ns ms x → Ready ms top i x t
room_ready ns ms list top place i x t R W = record {
  holds = Holds-same ns ms t W.len R.tree.has.apart (λ j h. W.others j (λ e. R.not_leaf (subst (Has t) e h))) R.tree.has.holds;
  apart = R.tree.has.apart;
  top_is = R.tree.has.top_is;
  new_leaf = W.is_leaf;
  new_fork = subst (λ n. i < n) (sym W.len) R.new_fork;
  differ = R.differ;
  not_fork = R.not_fork;
  not_leaf = R.not_leaf;
  few = R.few;
}

-- the leaf written, and then put in
pub written_first : (ns ms ks : List Node) (a i : ℕ) (x : Item) (t now : Tree) → WritesLeaf ns ms x → Becomes ms ks a (fork i (leaf x) t) now → Becomes ns ks a (fork i (leaf x) t) now
written_first ns ms ks a i x t now W B = record {
  len = B.len ∙ W.len;
  top_is = B.top_is;
  holds = B.holds;
  apart = B.apart;
  inside = B.inside;
  others = λ j n. B.others j n ∙ W.others j (λ e. n (inr (inl e)));
  taken = λ j h. B.taken j (elim (cases_eq j x.number) [ inl e ↦ subst IsUsed (sym (ap (λ y. (at ms y).above) e ∙ W.above ∙ ap (λ y. (at ns y).above) (sym e))) h | inr n ↦ subst IsTaken (sym (W.others j n)) h ]);
}
