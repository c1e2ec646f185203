-- An arena after a side of a fork was changed, and after a turn.
use Rattle.std.proofs.Common.{◌≡◌, ℕ, ◌+◌, ◌^◌, ◌<◌, List, length, refl, sym, ap, ◌∙◌, subst, inl, inr, arith}
use Rattle.leaf_trees.specs.declared.node.Node.{Node}
use Rattle.leaf_trees.specs.declared.side.Side.{Side}
use Rattle.leaf_trees.specs.declared.side.Side.TheVariants.{Left, Right}
use Rattle.leaf_trees.specs.Tree.{Tree, leaf, fork, root, size, height, Has, Disjoint, Apart}
use Rattle.leaf_trees.specs.Side.{other, below, on, fork_on}
use Rattle.leaf_trees.specs.Balance.{turned}
use Rattle.leaf_trees.specs.Arena.{at, Holds}
use Rattle.leaf_trees.specs.Change.{Sides, Becomes}
use Rattle.leaf_trees.proofs.Held.{Holds-same}

pub flip : (t w : Tree) → Disjoint t w → Disjoint w t
flip t w d = record { apart = λ x a b. d.apart x b a }

-- the two trees are named in either order
pub flip_sides : (ns : List Node) (i a b : ℕ) (t u : Tree) → Sides ns i a b t u → Sides ns i b a u t
flip_sides ns i a b t u s = record {
  within = s.within;
  left = s.right;
  right = s.left;
  holds_left = s.holds_right;
  holds_right = s.holds_left;
  apart = (s.apart.1, s.apart.0, flip t u s.apart.2, s.apart.4, s.apart.3);
  few = (let few = s.few in omega arith);
}

pub swap : (i : ℕ) (t u : Tree) (j : ℕ) → Has (fork i t u) j → Has (fork i u t) j
swap i t u j h = elim h [ inl e ↦ inl e | inr y ↦ elim y [ inl x ↦ inr (inr x) | inr x ↦ inr (inl x) ] ]

-- the nodes and the leaves of one side are those of the fork
pub in_side : (s : Side) (b : ℕ) (l r : Tree) (j : ℕ) → Has (on s l r) j → Has (fork b l r) j
in_side Left b l r j h = inr (inl h)
in_side Right b l r j h = inr (inr h)

pub size-sides : (s : Side) (l r : Tree) → size (on s l r) + size (on (other s) l r) ≡ size l + size r
size-sides Left l r = refl
size-sides Right l r = omega arith

pub size-fork_on : (s : Side) (i : ℕ) (t u : Tree) → size (fork_on s i t u) ≡ size t + size u
size-fork_on Left i t u = refl
size-fork_on Right i t u = omega arith

-- one change after another
pub Becomes-then : (ns ms ks : List Node) (a b : ℕ) (w w' t u W : Tree) → Becomes ns ms a w t → Becomes ms ks b w' u → ((j : ℕ) → Has w j → Has W j) → ((j : ℕ) → Has w' j → Has W j) → Becomes ns ks b W u
Becomes-then ns ms ks a b w w' t u W B C within within' = record {
  len = C.len ∙ B.len;
  top_is = C.top_is;
  holds = C.holds;
  apart = C.apart;
  inside = λ j h. within' j (C.inside j h);
  others = λ j n. C.others j (λ h. n (within' j h)) ∙ B.others j (λ h. n (within j h));
  taken = λ j h. C.taken j (B.taken j h);
}

-- a wider footprint
pub Becomes-wider : (ns ms : List Node) (a : ℕ) (w W t : Tree) → Becomes ns ms a w t → ((j : ℕ) → Has w j → Has W j) → Becomes ns ms a W t
Becomes-wider ns ms a w W t B in_w = record { len = B.len; top_is = B.top_is; holds = B.holds; apart = B.apart; inside = λ j h. in_w j (B.inside j h); others = λ j n. B.others j (λ h. n (in_w j h)); taken = B.taken }

-- what a change leaves beside it
pub record Beside (ns : List Node) (i b : ℕ) (w t : Tree) : Type 0 where
  pub within : i < length ns
  pub top_is : root t ≡ b
  pub holds : Holds ns t
  pub apart : Apart t
  pub not_here : ¬ Has t i
  pub not_there : ¬ Has w i
  pub disjoint : Disjoint w t

pub beside_first : (ns : List Node) (i a b : ℕ) (t u : Tree) → Sides ns i a b t u → Beside ns i b t u
beside_first ns i a b t u s = record { within = s.within; top_is = s.right; holds = s.holds_right; apart = s.apart.4; not_here = s.apart.1; not_there = s.apart.0; disjoint = s.apart.2 }

-- the two trees, once the first was changed
pub new_first : (ns ms : List Node) (i a b : ℕ) (w u t : Tree) → Beside ns i b w t → Becomes ns ms a w u → size u + size t < 2 ^ 32 → Sides ms i a b u t
new_first ns ms i a b w u t beside B few = record {
  within = subst (λ n. i < n) (sym B.len) beside.within;
  left = B.top_is;
  right = beside.top_is;
  holds_left = B.holds;
  holds_right = Holds-same ns ms t B.len beside.apart (λ j h. B.others j (λ k. beside.disjoint.apart j k h)) beside.holds;
  apart = ((λ h. beside.not_there (B.inside i h)), beside.not_here, record { apart = λ j x y. beside.disjoint.apart j (B.inside j x) y }, B.apart, beside.apart);
  few = few;
}

-- the first is changed, and then the tree of both
pub then_first : (ns ms ks : List Node) (i a b : ℕ) (w u t now W : Tree) → Becomes ns ms a w u → Becomes ms ks b (fork i u t) now → ((j : ℕ) → Has w j → Has W j) → Has W i → ((j : ℕ) → Has t j → Has W j) → Becomes ns ks b W now
then_first ns ms ks i a b w u t now W B C in_w in_i in_t =
    Becomes-then ns ms ks a b w (fork i u t) u now W B C in_w
    (λ j h. elim h [ inl e ↦ subst (Has W) (sym e) in_i | inr y ↦ elim y [ inl x ↦ in_w j (B.inside j x) | inr x ↦ in_t j x ] ])

-- the trees of a footprint come in either order
pub footprint : (ns ms : List Node) (a i : ℕ) (t u now : Tree) → Becomes ns ms a (fork i u t) now → Becomes ns ms a (fork i t u) now
footprint ns ms a i t u now B = Becomes-wider ns ms a (fork i u t) (fork i t u) now B (swap i u t)

-- a fork that an arena holds
pub sides_held : (ns : List Node) (b : ℕ) (l r : Tree) → Holds ns (fork b l r) → Apart (fork b l r) → size l + size r < 2 ^ 32 → Sides ns b (at ns b).left (at ns b).right l r
sides_held ns b l r h apart few = record { within = h.0.within; left = sym h.0.left; right = sym h.0.right; holds_left = h.1; holds_right = h.2; apart = apart; few = few }

pub opened : (s : Side) (ns : List Node) (b : ℕ) (l r : Tree) → Holds ns (fork b l r) → Apart (fork b l r) → size l + size r < 2 ^ 32 → Sides ns b (below s (at ns b)) (below (other s) (at ns b)) (on s l r) (on (other s) l r)
opened Left ns b l r h apart few = sides_held ns b l r h apart few
opened Right ns b l r h apart few = flip_sides ns b (at ns b).left (at ns b).right l r (sides_held ns b l r h apart few)

-- the root of a fork comes to the top
module _ (s : Side) (ns : List Node) (i b low x y : ℕ) (l r u : Tree) (S : Sides ns i b low (fork b l r) u) (O : Sides ns b x y (on s l r) (on (other s) l r)) where
  abbrev outer : Tree
  outer = on s l r

  abbrev inner : Tree
  inner = on (other s) l r

  in_outer : (j : ℕ) → Has outer j → Has (fork b l r) j
  in_outer = in_side s b l r

  in_inner : (j : ℕ) → Has inner j → Has (fork b l r) j
  in_inner = in_side (other s) b l r

  pub turn_first : Sides ns i y low inner u
  turn_first = record {
    within = S.within;
    left = O.right;
    right = S.right;
    holds_left = O.holds_right;
    holds_right = S.holds_right;
    apart = ((λ h. S.apart.0 (in_inner i h)), S.apart.1, record { apart = λ j h k. S.apart.2.apart j (in_inner j h) k }, O.apart.4, S.apart.4);
    few = (let few = S.few in omega (arith, few, size-sides s l r));
  }

  module _ (ms : List Node) (B : Becomes ns ms i (fork i inner u) (fork_on s i inner u)) where
    pub turn_second : Sides ms b x i outer (fork_on s i inner u)
    turn_second = flip_sides ms b i x (fork_on s i inner u) outer (new_first ns ms b i x (fork i inner u) (fork_on s i inner u) outer (record {
      within = O.within;
      top_is = O.left;
      holds = O.holds_left;
      apart = O.apart.3;
      not_here = O.apart.0;
      not_there = λ h. elim h [ inl e ↦ S.apart.0 (inl (sym e)) | inr k ↦ elim k [ inl m ↦ O.apart.1 m | inr m ↦ S.apart.2.apart b (inl refl) m ] ];
      disjoint = record { apart = λ j h k. elim h [ inl e ↦ S.apart.0 (in_outer i (subst (Has outer) e k)) | inr m ↦ elim m [ inl n ↦ O.apart.2.apart j k n | inr n ↦ S.apart.2.apart j (in_outer j k) n ] ] };
    }) B (let few = S.few in omega (arith, few, size-sides s l r, size-fork_on s i inner u)))

    pub turn_whole : (ks : List Node) → Becomes ms ks b (fork b outer (fork_on s i inner u)) (fork_on s b outer (fork_on s i inner u)) → Becomes ns ks b (fork i (fork b l r) u) (turned s i (fork b l r) u)
    turn_whole ks C = Becomes-then ns ms ks i b (fork i inner u) (fork b outer (fork_on s i inner u)) (fork_on s i inner u) (fork_on s b outer (fork_on s i inner u)) (fork i (fork b l r) u) B C under
        (λ j h. elim h [ inl e ↦ inr (inl (inl e)) | inr k ↦ elim k [ inl m ↦ inr (inl (in_outer j m)) | inr m ↦ under j (B.inside j m) ] ])
      where
        under : (j : ℕ) → Has (fork i inner u) j → Has (fork i (fork b l r) u) j
        under j h = elim h [ inl e ↦ inl e | inr k ↦ elim k [ inl m ↦ inr (inl (in_inner j m)) | inr m ↦ inr (inr m) ] ]

-- a tree that is no leaf is a fork
pub record Forked (t : Tree) (i : ℕ) : Type 0 where
  pub l : Tree
  pub r : Tree
  pub is : t ≡ fork i l r

pub forked : (t : Tree) (i : ℕ) → root t ≡ i → 0 < height t → Forked t i
forked (leaf x) i e h = absurd (omega arith)
forked (fork b l r) i e h = record { l = l; r = r; is = ap (λ y. fork y l r) e }

-- the first of two trees, where it is no leaf, and its own sides, which are below x and y
pub record HighSide (s : Side) (ns : List Node) (i b low x y : ℕ) (t u : Tree) : Type 0 where
  pub l : Tree
  pub r : Tree
  pub is : t ≡ fork b l r
  pub sides : Sides ns i b low (fork b l r) u
  pub inner : Sides ns b x y (on s l r) (on (other s) l r)

pub high_side : (s : Side) (ns : List Node) (i b low x y : ℕ) (t u : Tree) → Sides ns i b low t u → 0 < height t → x ≡ below s (at ns b) → y ≡ below (other s) (at ns b) → HighSide s ns i b low x y t u
high_side s ns i b low x y t u S h ex ey =
    let f = forked t b S.left h in
    let S' : Sides ns i b low (fork b f.l f.r) u = subst (λ (v : Tree). Sides ns i b low v u) f.is S in
    let O = opened s ns b f.l f.r S'.holds_left S'.apart.3 (let few = S'.few in omega arith) in
    record { l = f.l; r = f.r; is = f.is; sides = S'; inner = record { within = O.within; left = O.left ∙ sym ex; right = O.right ∙ sym ey; holds_left = O.holds_left; holds_right = O.holds_right; apart = O.apart; few = O.few } }

-- the turn, where the tree is only known to be no leaf
pub turns : (s : Side) (ns ms ks : List Node) (i b low x y : ℕ) (t u : Tree) → Sides ns i b low t u → 0 < height t → x ≡ below s (at ns b) → y ≡ below (other s) (at ns b)
    → ((t' u' : Tree) → Sides ns i y low t' u' → Becomes ns ms i (fork i t' u') (fork_on s i t' u'))
    → ((t' u' : Tree) → Sides ms b x i t' u' → Becomes ms ks b (fork b t' u') (fork_on s b t' u'))
    → Becomes ns ks b (fork i t u) (turned s i t u)
turns s ns ms ks i b low x y t u S h ex ey first second =
    let f = high_side s ns i b low x y t u S h ex ey in
    let B = first (on (other s) f.l f.r) u (turn_first s ns i b low x y f.l f.r u f.sides f.inner) in
    let C = second (on s f.l f.r) (fork_on s i (on (other s) f.l f.r) u) (turn_second s ns i b low x y f.l f.r u f.sides f.inner ms B) in
    subst (λ (v : Tree). Becomes ns ks b (fork i v u) (turned s i v u)) (sym f.is) (turn_whole s ns i b low x y f.l f.r u f.sides f.inner ms B ks C)
