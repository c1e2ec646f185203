-- A tree that was too high for the one beside it, once it is turned: one turn or two.
use Rattle.std.proofs.Common.{◌≡◌, ◌⊎◌, ℕ, ◌+◌, ◌<◌, ◌≤◌, max, refl, sym, ap, ◌∙◌, subst, inl, inr, arith}
use Rattle.std.proofs.lemmas.Bool.{cases_lt}
use Rattle.leaf_trees.specs.declared.side.Side.{Side}
use Rattle.leaf_trees.specs.declared.side.Side.TheVariants.{Left, Right}
use Rattle.leaf_trees.specs.Tree.{Tree, leaf, fork, height, IsAvl}
use Rattle.leaf_trees.specs.Side.{other, on, fork_on}
use Rattle.leaf_trees.specs.Balance.{turned, heavy}
use Rattle.leaf_trees.proofs.Lean.{heavy_same, heavy_turned}

pub other_fork : (s : Side) (i : ℕ) (t u : Tree) → fork_on (other s) i u t ≡ fork_on s i t u
other_fork Left i t u = refl
other_fork Right i t u = refl

pub height-fork_on : (s : Side) (i : ℕ) (t u : Tree) → height (fork_on s i t u) ≡ max (height t) (height u) + 1
height-fork_on Left i t u = refl
height-fork_on Right i t u = omega arith

-- two balanced trees of which neither is more than one higher
pub record IsEven (t u : Tree) : Type 0 where
  pub left_avl : IsAvl t
  pub right_avl : IsAvl u
  pub left_most : height t ≤ height u + 1
  pub right_most : height u ≤ height t + 1

pub even_sides : (s : Side) (i : ℕ) (t u : Tree) → IsAvl (fork_on s i t u) → IsEven t u
even_sides Left i t u a = record { left_avl = a.2; right_avl = a.3; left_most = a.0; right_most = a.1 }
even_sides Right i t u a = record { left_avl = a.3; right_avl = a.2; left_most = a.1; right_most = a.0 }

pub make_even : (s : Side) (i : ℕ) (t u : Tree) → IsEven t u → IsAvl (fork_on s i t u)
make_even Left i t u e = (e.left_most, e.right_most, e.left_avl, e.right_avl)
make_even Right i t u e = (e.right_most, e.left_most, e.right_avl, e.left_avl)

-- one turn: the outer part o is not the lower one
pub record Single (s : Side) (i : ℕ) (t u : Tree) : Type 0 where
  pub b : ℕ
  pub o : Tree
  pub n : Tree
  pub is : t ≡ fork_on s b o n
  pub lower : height n ≤ height o
  pub now_is : turned s i (heavy s t) u ≡ fork_on s b o (fork_on s i n u)

-- two turns: the inner part, a fork, is the higher one
pub record Double (s : Side) (i : ℕ) (t u : Tree) : Type 0 where
  pub b : ℕ
  pub c : ℕ
  pub o : Tree
  pub p : Tree
  pub q : Tree
  pub is : t ≡ fork_on s b o (fork_on s c p q)
  pub higher : height o < height (fork_on s c p q)
  pub now_is : turned s i (heavy s t) u ≡ fork_on s c (fork_on s b o p) (fork_on s i q u)

sides_are : (s : Side) (b : ℕ) (l r : Tree) → fork b l r ≡ fork_on s b (on s l r) (on (other s) l r)
sides_are Left b l r = refl
sides_are Right b l r = refl

-- the inner part, a fork, comes to the top, and then so does what it became
twice : (s : Side) (i b c : ℕ) (l r o u : Tree) → turned s i (turned (other s) b (fork c l r) o) u ≡ fork_on s c (fork_on s b o (on s l r)) (fork_on s i (on (other s) l r) u)
twice Left i b c l r o u = refl
twice Right i b c l r o u = refl

doubled : (s : Side) (i b : ℕ) (l r n u : Tree) → n ≡ on (other s) l r → height (on s l r) < height n → Double s i (fork b l r) u
doubled s i b l r (leaf x) u e h = absurd (omega arith)
doubled s i b l r (fork c nl nr) u e h = record {
  b = b;
  c = c;
  o = on s l r;
  p = on s nl nr;
  q = on (other s) nl nr;
  is = sides_are s b l r ∙ ap (fork_on s b (on s l r)) (sym e ∙ sides_are s c nl nr);
  higher = subst (λ (x : Tree). height (on s l r) < height x) (sides_are s c nl nr) h;
  now_is = ap (λ (x : Tree). turned s i x u) (heavy_turned s (fork b l r) b l r refl (subst (λ (x : Tree). height (on s l r) < height x) e h))
      ∙ ap (λ (x : Tree). turned s i (turned (other s) b x (on s l r)) u) (sym e) ∙ twice s i b c nl nr (on s l r) u;
}

pub leaned : (s : Side) (i : ℕ) (t u : Tree) → 0 < height t → Single s i t u ⊎ Double s i t u
leaned s i (leaf x) u h = absurd (omega arith)
leaned s i (fork b l r) u h = elim (cases_lt (height (on s l r)) (height (on (other s) l r))) [
  | inl less ↦ inr (doubled s i b l r (on (other s) l r) u refl less)
  | inr more ↦ inl (record {
    b = b;
    o = on s l r;
    n = on (other s) l r;
    is = sides_are s b l r;
    lower = more;
    now_is = ap (λ (x : Tree). turned s i x u) (heavy_same s (fork b l r) b l r refl more);
  })
]
