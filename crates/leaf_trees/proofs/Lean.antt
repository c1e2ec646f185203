-- An arena in which a tree is balanced.
use Rattle.std.proofs.Common.{◌≡◌, ℕ, ◌+◌, ◌<◌, ◌≤◌, true, false, List, refl, sym, ap, ◌∙◌, subst, inl, inr, arith}
use Rattle.std.specs.Prelude.{nat_le, nat_lt}
use Rattle.std.proofs.lemmas.Bool.Decides.{nat_tests}
use Rattle.leaf_trees.specs.declared.node.Node.{Node}
use Rattle.leaf_trees.specs.declared.side.Side.{Side}
use Rattle.leaf_trees.specs.declared.side.Side.TheVariants.{Left, Right}
use Rattle.leaf_trees.specs.Tree.{Tree, leaf, fork, size, height, Has}
use Rattle.leaf_trees.specs.Side.{other, on, fork_on}
use Rattle.leaf_trees.specs.Balance.{turned, heavy, balanced}
use Rattle.leaf_trees.specs.Change.{Sides, Becomes}
use Rattle.leaf_trees.proofs.Held.{left_height, right_height}
use Rattle.leaf_trees.proofs.Turns.{Becomes-wider, beside_first, new_first, then_first, size-fork_on}

pub le_is : (a b : ℕ) → a ≤ b → nat_le a b ≡ true
le_is a b h = grind (arith, nat_tests)

pub gt_is : (a b : ℕ) → b < a → nat_le a b ≡ false
gt_is a b h = grind (arith, nat_tests)

pub lt_is : (a b : ℕ) → a < b → nat_lt a b ≡ true
lt_is a b h = grind (arith, nat_tests)

pub ge_is : (a b : ℕ) → b ≤ a → nat_lt a b ≡ false
ge_is a b h = grind (arith, nat_tests)

-- what a turn keeps
pub size-turned : (s : Side) (i : ℕ) (t u : Tree) → size (turned s i t u) ≡ size t + size u
size-turned s i (leaf x) u = size-fork_on s i (leaf x) u
size-turned Left i (fork b l r) u = omega arith
size-turned Right i (fork b l r) u = omega arith

pub high-turned : (s : Side) (i : ℕ) (t u : Tree) → 0 < height (turned s i t u)
high-turned Left i (leaf x) u = omega arith
high-turned Right i (leaf x) u = omega arith
high-turned Left i (fork b l r) u = omega arith
high-turned Right i (fork b l r) u = omega arith

-- two trees with these roots are equally high
pub high_same : (ns : List Node) (i a b : ℕ) (t u t' u' : Tree) → Sides ns i a b t u → Sides ns i a b t' u' → height u + 1 < height t → height u' + 1 < height t'
high_same ns i a b t u t' u' s s' h =
    let e = left_height ns i a b t u s in let e' = left_height ns i a b t' u' s' in
    let f = right_height ns i a b t u s in let f' = right_height ns i a b t' u' s' in
    omega arith

-- a tree that leans as it should, and one that is turned
pub heavy_same : (s : Side) (t : Tree) (b : ℕ) (l r : Tree) → t ≡ fork b l r → height (on (other s) l r) ≤ height (on s l r) → heavy s t ≡ t
heavy_same s t b l r e h = ap (heavy s) e ∙ rw (le_is (height (on (other s) l r)) (height (on s l r)) h) (sym e)

pub heavy_turned : (s : Side) (t : Tree) (b : ℕ) (l r : Tree) → t ≡ fork b l r → height (on s l r) < height (on (other s) l r) → heavy s t ≡ turned (other s) b (on (other s) l r) (on s l r)
heavy_turned s t b l r e h = ap (heavy s) e ∙ rw (gt_is (height (on (other s) l r)) (height (on s l r)) h) refl

-- the nodes of a fork, its sides in either order
of_sides : (s : Side) (b : ℕ) (l r : Tree) (j : ℕ) → Has (fork b (on (other s) l r) (on s l r)) j → Has (fork b l r) j
of_sides Left b l r j h = elim h [ inl e ↦ inl e | inr y ↦ elim y [ inl x ↦ inr (inr x) | inr x ↦ inr (inl x) ] ]
of_sides Right b l r j h = h

-- the first tree is turned, and then both
module _ (s : Side) (ns ms : List Node) (i b low a : ℕ) (l r u : Tree) (S : Sides ns i b low (fork b l r) u) (B : Becomes ns ms a (fork b (on (other s) l r) (on s l r)) (turned (other s) b (on (other s) l r) (on s l r))) where
  abbrev now : Tree
  now = turned (other s) b (on (other s) l r) (on s l r)

  whole : Becomes ns ms a (fork b l r) now
  whole = Becomes-wider ns ms a (fork b (on (other s) l r) (on s l r)) (fork b l r) now B (of_sides s b l r)

  few : (s : Side) → size (on (other s) l r) + size (on s l r) ≡ size l + size r
  few Left = omega arith
  few Right = refl

  pub turned_sides : Sides ms i a low now u
  turned_sides = new_first ns ms i a low (fork b l r) now u (beside_first ns i b low (fork b l r) u S) whole
      (let e = size-turned (other s) b (on (other s) l r) (on s l r) in let f = S.few in omega (arith, e, f, few s))

  pub double : (ks : List Node) (c : ℕ) (t : Tree) → t ≡ fork b l r → height (on s l r) < height (on (other s) l r) → Becomes ms ks c (fork i now u) (turned s i now u) → Becomes ns ks c (fork i t u) (turned s i (heavy s t) u)
  double ks c t e h C =
      rw (heavy_turned s t b l r e h)
      (subst (λ (x : Tree). Becomes ns ks c (fork i x u) (turned s i now u)) (sym e)
      (then_first ns ms ks i a c (fork b l r) now u (turned s i now u) (fork i (fork b l r) u) whole C (λ j h. inr (inl h)) (inl refl) (λ j h. inr (inr h))))

pub balanced_high : (s : Side) (i : ℕ) (t u : Tree) → height u + 1 < height t → balanced s i t u ≡ turned s i (heavy s t) u
balanced_high s i t u h = rw (lt_is (height u + 1) (height t) h) refl

pub balanced_low : (s : Side) (i : ℕ) (t u : Tree) → height t + 1 < height u → balanced s i t u ≡ turned (other s) i (heavy (other s) u) t
balanced_low s i t u h = rw (ge_is (height u + 1) (height t) (omega arith), lt_is (height t + 1) (height u) h) refl

pub balanced_even : (s : Side) (i : ℕ) (t u : Tree) → height t ≤ height u + 1 → height u ≤ height t + 1 → balanced s i t u ≡ fork_on s i t u
balanced_even s i t u a b = rw (ge_is (height u + 1) (height t) a, ge_is (height t + 1) (height u) b) refl
