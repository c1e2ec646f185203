-- Balanced trees: their leaves, their sizes and their heights.
use Rattle.std.proofs.Common.{◌≡◌, ℕ, ◌+◌, ◌≤◌, max, true, false, cond, List, ◌++◌, length, refl, sym, ap, ◌∙◌, subst, inl, inr, arith, append_assoc, length-append}
use Rattle.std.specs.Prelude.{nat_lt, nat_le}
use Rattle.std.proofs.lemmas.Bool.{cases_lt}
use Rattle.leaf_trees.specs.declared.side.Side.{Side}
use Rattle.leaf_trees.specs.declared.side.Side.TheVariants.{Left, Right}
use Rattle.leaf_trees.specs.Tree.{Item, Tree, leaf, fork, size, height, leaves, IsAvl}
use Rattle.leaf_trees.specs.Side.{other, on, fork_on}
use Rattle.leaf_trees.specs.Balance.{turned, heavy, balanced}
use Rattle.leaf_trees.proofs.Leaned.{leaned, height-fork_on, even_sides, make_even, other_fork}
use Rattle.leaf_trees.proofs.Turns.{size-fork_on}
use Rattle.leaf_trees.proofs.Lean.{balanced_high, balanced_low, balanced_even}

pub length-leaves : (t : Tree) → length (leaves t) ≡ size t
length-leaves (leaf x) = refl
length-leaves (fork i l r) = omega (arith, length-append (leaves l) (leaves r), length-leaves l, length-leaves r)

-- the leaves stay in order
leaves-turned : (s : Side) (i : ℕ) (t u : Tree) → leaves (turned s i t u) ≡ leaves (fork_on s i t u)
leaves-turned s i (leaf x) u = refl
leaves-turned Left i (fork b l r) u = sym (append_assoc (leaves l) (leaves r) (leaves u))
leaves-turned Right i (fork b l r) u = append_assoc (leaves u) (leaves l) (leaves r)

leaves-sides : (s : Side) (b : ℕ) (l r : Tree) → leaves (fork_on (other s) b (on (other s) l r) (on s l r)) ≡ leaves l ++ leaves r
leaves-sides Left b l r = refl
leaves-sides Right b l r = refl

leaves-heavy : (s : Side) (t : Tree) → leaves (heavy s t) ≡ leaves t
leaves-heavy s (leaf x) = refl
leaves-heavy s (fork b l r) =
    elim (nat_le (height (on (other s) l r)) (height (on s l r))) as (λ t. leaves (cond t (fork b l r) (turned (other s) b (on (other s) l r) (on s l r))) ≡ leaves l ++ leaves r) [
      | true ↦ refl
      | false ↦ leaves-turned (other s) b (on (other s) l r) (on s l r) ∙ leaves-sides s b l r
    ]

pub leaves-fork_on : (s : Side) (i : ℕ) (t t' u : Tree) → leaves t ≡ leaves t' → leaves (fork_on s i t u) ≡ leaves (fork_on s i t' u)
leaves-fork_on Left i t t' u e = ap (λ (x : List Item). x ++ leaves u) e
leaves-fork_on Right i t t' u e = ap (λ (x : List Item). leaves u ++ x) e

leaves-turn : (s : Side) (i : ℕ) (t u : Tree) → leaves (turned s i (heavy s t) u) ≡ leaves (fork_on s i t u)
leaves-turn s i t u = leaves-turned s i (heavy s t) u ∙ leaves-fork_on s i (heavy s t) t u (leaves-heavy s t)

pub leaves-balanced : (s : Side) (i : ℕ) (t u : Tree) → leaves (balanced s i t u) ≡ leaves (fork_on s i t u)
leaves-balanced s i t u =
    elim (nat_lt (height u + 1) (height t)) as (λ b. leaves (cond b (turned s i (heavy s t) u) (cond (nat_lt (height t + 1) (height u)) (turned (other s) i (heavy (other s) u) t) (fork_on s i t u))) ≡ leaves (fork_on s i t u)) [
      | true ↦ leaves-turn s i t u
      | false ↦ elim (nat_lt (height t + 1) (height u)) as (λ b. leaves (cond b (turned (other s) i (heavy (other s) u) t) (fork_on s i t u)) ≡ leaves (fork_on s i t u)) [
        | true ↦ leaves-turn (other s) i u t ∙ ap leaves (other_fork s i t u)
        | false ↦ refl
      ]
    ]

-- trees with the same leaves have the same size
pub size_by_leaves : (t u : Tree) → leaves t ≡ leaves u → size t ≡ size u
size_by_leaves t u e = sym (length-leaves t) ∙ ap length e ∙ length-leaves u

pub size-balanced : (s : Side) (i : ℕ) (t u : Tree) → size (balanced s i t u) ≡ size t + size u
size-balanced s i t u = size_by_leaves (balanced s i t u) (fork_on s i t u) (leaves-balanced s i t u) ∙ size-fork_on s i t u

-- a tree that was balanced after one side of it grew or shrank by one level
pub record Settles (t : Tree) (high : ℕ) : Type 0 where
  pub avl : IsAvl t
  pub least : high ≤ height t
  pub most : height t ≤ high + 1

-- a tree that was two levels higher
settles : (s : Side) (i : ℕ) (t u : Tree) → IsAvl t → IsAvl u → height t ≡ height u + 2 → Settles (turned s i (heavy s t) u) (height t)
settles s i t u at au e = elim (leaned s i t u (omega arith)) [
  | inl S ↦
      (let a = even_sides s S.b S.o S.n (subst IsAvl S.is at) in
      let top = height-fork_on s S.b S.o S.n in let h = ap height S.is in let lower = S.lower in let d = a.left_most in let d' = a.right_most in
      let low = height-fork_on s i S.n u in let all = height-fork_on s S.b S.o (fork_on s i S.n u) in
      subst (λ (x : Tree). Settles x (height t)) (sym S.now_is) (record {
        avl = make_even s S.b S.o (fork_on s i S.n u) (record { left_avl = a.left_avl; right_avl = make_even s i S.n u (record { left_avl = a.right_avl; right_avl = au; left_most = omega arith; right_most = omega arith }); left_most = omega arith; right_most = omega arith });
        least = omega arith;
        most = omega arith;
      }))
  | inr D ↦
      (let a = even_sides s D.b D.o (fork_on s D.c D.p D.q) (subst IsAvl D.is at) in
      let m = even_sides s D.c D.p D.q a.right_avl in
      let top = height-fork_on s D.b D.o (fork_on s D.c D.p D.q) in let h = ap height D.is in let higher = D.higher in let d = a.left_most in let d' = a.right_most in
      let inner = height-fork_on s D.c D.p D.q in let f = m.left_most in let f' = m.right_most in
      let one = height-fork_on s D.b D.o D.p in let two = height-fork_on s i D.q u in let all = height-fork_on s D.c (fork_on s D.b D.o D.p) (fork_on s i D.q u) in
      subst (λ (x : Tree). Settles x (height t)) (sym D.now_is) (record {
        avl = make_even s D.c (fork_on s D.b D.o D.p) (fork_on s i D.q u) (record {
          left_avl = make_even s D.b D.o D.p (record { left_avl = a.left_avl; right_avl = m.left_avl; left_most = omega arith; right_most = omega arith });
          right_avl = make_even s i D.q u (record { left_avl = m.right_avl; right_avl = au; left_most = omega arith; right_most = omega arith });
          left_most = omega arith;
          right_most = omega arith;
        });
        least = omega arith;
        most = omega arith;
      }))
]

-- the higher side's height, or one more: and one more where neither is two levels higher
pub record Balances (s : Side) (i : ℕ) (t u : Tree) : Type 0 where
  pub avl : IsAvl (balanced s i t u)
  pub least : max (height t) (height u) ≤ height (balanced s i t u)
  pub most : height (balanced s i t u) ≤ max (height t) (height u) + 1
  pub even : height t ≤ height u + 1 → height u ≤ height t + 1 → height (balanced s i t u) ≡ max (height t) (height u) + 1

settled : (s : Side) (i : ℕ) (t u now : Tree) (high : ℕ) → balanced s i t u ≡ now → Settles now high → high ≡ max (height t) (height u) → (height t ≤ height u + 1 → height u ≤ height t + 1 → ⊥) → Balances s i t u
settled s i t u now high e S m uneven = record {
  avl = subst IsAvl (sym e) S.avl;
  least = subst (λ (x : Tree). max (height t) (height u) ≤ height x) (sym e) (let h = S.least in omega arith);
  most = subst (λ (x : Tree). height x ≤ max (height t) (height u) + 1) (sym e) (let h = S.most in omega arith);
  even = λ f g. absurd (uneven f g);
}

pub balances : (s : Side) (i : ℕ) (t u : Tree) → IsAvl t → IsAvl u → height t ≤ height u + 2 → height u ≤ height t + 2 → Balances s i t u
balances s i t u at au a b =
    elim (cases_lt (height u + 1) (height t)) [
      | inl h ↦ settled s i t u (turned s i (heavy s t) u) (height t) (balanced_high s i t u h) (settles s i t u at au (omega arith)) (omega arith) (λ f g. omega arith)
      | inr h ↦ elim (cases_lt (height t + 1) (height u)) [
        | inl k ↦ settled s i t u (turned (other s) i (heavy (other s) u) t) (height u) (balanced_low s i t u k) (settles (other s) i u t au at (omega arith)) (omega arith) (λ f g. omega arith)
        | inr k ↦
            (let e = sym (balanced_even s i t u h k) in let m = height-fork_on s i t u in
            record {
              avl = subst IsAvl e (make_even s i t u (record { left_avl = at; right_avl = au; left_most = h; right_most = k }));
              least = subst (λ (x : Tree). max (height t) (height u) ≤ height x) e (omega arith);
              most = subst (λ (x : Tree). height x ≤ max (height t) (height u) + 1) e (omega arith);
              even = λ f g. subst (λ (x : Tree). height x ≡ max (height t) (height u) + 1) e m;
            })
      ]
    ]
