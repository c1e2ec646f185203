-- A leaf with other flags.
use Rattle.std.proofs.Common.{◌≡◌, ℕ, zero, suc, ◌+◌, ◌-◌, ◌<◌, ◌≤◌, max, true, false, cond, List, ◌++◌, get_or, set, refl, sym, ap, ◌∙◌, subst, inl, inr, arith}
use Rattle.std.specs.Prelude.{nat_lt}
use Rattle.std.proofs.lemmas.Bool.{cases_lt}
use Rattle.leaf_trees.specs.declared.node.Node.{Node}
use Rattle.leaf_trees.specs.declared.node.Flags.{Flags}
use Rattle.leaf_trees.specs.declared.side.Side.{Side}
use Rattle.leaf_trees.specs.Side.{other, on, fork_on}
use Rattle.leaf_trees.specs.Tree.{Item, Tree, leaf, fork, size, height, leaves, items, item_of, IsAvl}
use Rattle.leaf_trees.specs.Balance.{flag_at}
use Rattle.leaf_trees.specs.Change.{Sides, Becomes}
use Rattle.leaf_trees.proofs.Turns.{new_first, then_first, beside_first, in_side}
use Rattle.leaf_trees.proofs.Lean.{lt_is, ge_is}
use Rattle.leaf_trees.proofs.Ways.{Goes}
use Rattle.leaf_trees.proofs.Parts.{Down}
use Rattle.leaf_trees.proofs.Balanced.{length-leaves}
use Rattle.leaf_trees.proofs.Items.{items_left, items_right}
use Rattle.std.proofs.lemmas.List.{set-append_left, set-append_right}

pub size-flag_at : (f : Flags) (k : ℕ) (t : Tree) → size (flag_at f k t) ≡ size t
size-flag_at f k (leaf x) = refl
size-flag_at f k (fork b l r) =
    elim (nat_lt k (size l)) as (λ c. size (cond c (fork b (flag_at f k l) r) (fork b l (flag_at f (k - size l) r))) ≡ size l + size r) [
      | true ↦ (let e = size-flag_at f k l in omega arith)
      | false ↦ (let e = size-flag_at f (k - size l) r in omega arith)
    ]

module _ (s : Side) (ns : List Node) (top a b : ℕ) (f : Flags) (k j : ℕ) (t : Tree) (P : Down s ns top a b t) (G : Goes s k j P.l P.r) (ms : List Node) (B : Becomes ns ms a (on s P.l P.r) (flag_at f j (on s P.l P.r))) where
  abbrev here : Tree
  here = on s P.l P.r

  abbrev there : Tree
  there = on (other s) P.l P.r

  pub flagged_sides : Sides ms top a b (flag_at f j here) there
  flagged_sides = new_first ns ms top a b here (flag_at f j here) there
      (beside_first ns top a b here there P.both) B
      (let few = P.both.few in omega (arith, few, size-flag_at f j here))

  pub flagged : (ks : List Node) → Becomes ms ks top (fork top (flag_at f j here) there) (fork_on s top (flag_at f j here) there) → Becomes ns ks top t (flag_at f k t)
  flagged ks C =
      subst (λ (x : Tree). Becomes ns ks top x (flag_at f k x)) (sym P.is) (rw (G.flag_is f top)
      (then_first ns ms ks top a top here (flag_at f j here) there (fork_on s top (flag_at f j here) there) (fork top P.l P.r) B C (in_side s top P.l P.r) (inl refl) (in_side (other s) top P.l P.r)))

pub height-flag_at : (f : Flags) (k : ℕ) (t : Tree) → height (flag_at f k t) ≡ height t
height-flag_at f k (leaf x) = refl
height-flag_at f k (fork b l r) =
    elim (nat_lt k (size l)) as (λ c. height (cond c (fork b (flag_at f k l) r) (fork b l (flag_at f (k - size l) r))) ≡ max (height l) (height r) + 1) [
      | true ↦ ap (λ n. max n (height r) + 1) (height-flag_at f k l)
      | false ↦ ap (λ n. max (height l) n + 1) (height-flag_at f (k - size l) r)
    ]

pub avl-flag_at : (f : Flags) (k : ℕ) (t : Tree) → IsAvl t → IsAvl (flag_at f k t)
avl-flag_at f k (leaf x) avl = tt
avl-flag_at f k (fork b l r) avl =
    let d : height l ≤ height r + 1 = avl.0 in let e : height r ≤ height l + 1 = avl.1 in
    elim (nat_lt k (size l)) as (λ c. IsAvl (cond c (fork b (flag_at f k l) r) (fork b l (flag_at f (k - size l) r)))) [
      | true ↦ (let h = height-flag_at f k l in (omega arith, omega arith, avl-flag_at f k l avl.2, avl.3))
      | false ↦ (let h = height-flag_at f (k - size l) r in (omega arith, omega arith, avl.2, avl-flag_at f (k - size l) r avl.3))
    ]

-- the item at the place has these flags
pub leaves-flag_at : (f : Flags) (k : ℕ) (t : Tree) → k < size t → leaves (flag_at f k t) ≡ set (leaves t) k (item_of (get_or (items t) k 0) f)
leaves-flag_at f zero (leaf x) h = refl
leaves-flag_at f (suc k) (leaf x) h = absurd (omega arith)
leaves-flag_at f k (fork b l r) h =
    let n = length-leaves l in
    elim (cases_lt k (size l)) [
      | inl lt ↦ rw (lt_is k (size l) lt)
          (ap (λ (xs : List Item). xs ++ leaves r) (leaves-flag_at f k l lt)
          ∙ sym (set-append_left (leaves l) (leaves r) k _ (omega arith))
          ∙ ap (λ i. set (leaves l ++ leaves r) k (item_of i f)) (sym (items_left l r k lt)))
      | inr ge ↦ rw (ge_is k (size l) ge)
          (ap (λ (xs : List Item). leaves l ++ xs) (leaves-flag_at f (k - size l) r (omega arith))
          ∙ sym (set-append_right (leaves l) (leaves r) (size l) k _ n ge)
          ∙ ap (λ i. set (leaves l ++ leaves r) k (item_of i f)) (sym (items_right l r k ge)))
    ]
