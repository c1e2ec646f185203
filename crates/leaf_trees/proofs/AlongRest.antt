-- Which forks a removal leaves as they were.
use Rattle.std.proofs.Common.{◌≡◌, ℕ, ◌+◌, ◌-◌, ◌<◌, cond, Option, Some, None, refl, sym, ap, ◌∙◌, subst, inl, inr, arith}
use Rattle.std.specs.Prelude.{nat_eq}
use Rattle.std.proofs.lemmas.Bool.{cases_lt}
use Rattle.leaf_trees.specs.Tree.{Tree, leaf, fork, size, height, IsAvl, IsPart}
use Rattle.leaf_trees.specs.declared.side.Side.{Side}
use Rattle.leaf_trees.specs.declared.side.Side.TheVariants.{Left, Right}
use Rattle.leaf_trees.specs.Side.{other, fork_on, place_on, nearest}
use Rattle.leaf_trees.specs.Balance.{turned, heavy, take_out, beside, rest_place, ChangesAlong}
use Rattle.leaf_trees.proofs.Held.{positive}
use Rattle.leaf_trees.proofs.Lean.{lt_is, ge_is, balanced_low, balanced_even}
use Rattle.leaf_trees.proofs.Leaned.{leaned, even_sides, other_fork}
use Rattle.leaf_trees.proofs.TakeOut.{TakesHigh, high-take_out, size_left, some_fork, eq_zero, ne_zero}
use Rattle.leaf_trees.proofs.Along.{part_here, part_there, parts_on, sides_on, sides_of_part, go, go_to, place_within, along_wider, along_part}

-- a leaf beside is not the last place but one of what is left
pub rest_place-inside : (k : ℕ) (t : Tree) → 0 < height t → rest_place k t + 1 < size t
rest_place-inside k (leaf x) h = absurd (omega arith)
rest_place-inside k (fork b l r) h =
    let p = positive l in let q = positive r in
    elim (cases_lt k (size l)) [
      | inl lt ↦ rw (lt_is k (size l) lt) (elim (cases_lt 0 (height l)) [
        | inl some ↦ rw (ne_zero (height l) some) (let e = rest_place-inside k l some in omega arith)
        | inr none ↦ rw (eq_zero (height l) (omega arith)) (omega arith)
      ])
      | inr ge ↦ rw (ge_is k (size l) ge) (elim (cases_lt 0 (height r)) [
        | inl some ↦ rw (ne_zero (height r) some) (let e = rest_place-inside (k - size l) r some in omega arith)
        | inr none ↦ rw (eq_zero (height r) (omega arith)) (omega arith)
      ])
    ]

-- places after one turn, and after two
once_place : (s : Side) (c p : ℕ) (o n u : Tree) → u ≡ fork_on (other s) c o n → place_on s (size o) (place_on s (size n) p) ≡ place_on s (size u) p
once_place Left c p o n u e = refl
once_place Right c p o n u e = let f = ap size e in omega arith

twice_place : (s : Side) (c d p : ℕ) (o x q u : Tree) → u ≡ fork_on (other s) c o (fork_on (other s) d x q) → place_on s (size (fork_on (other s) c o x)) (place_on s (size q) p) ≡ place_on s (size u) p
twice_place Left c d p o x q u e = refl
twice_place Right c d p o x q u e = let f = ap size e in omega arith

-- t, on this side, shrank, and u, a part of the old tree, is turned
lean_along : (s : Side) (w : Tree) (p b : ℕ) (t u : Tree) → p < size t → 0 < height u → ChangesAlong w p t → IsPart w u → ChangesAlong w (place_on s (size u) p) (turned (other s) b (heavy (other s) u) t)
lean_along s w p b t u h high a old = elim (leaned (other s) b u t high) [
  | inl S ↦
      (let B = parts_on (other s) w S.b S.o S.n (subst (IsPart w) S.is old) in
      subst (ChangesAlong w (place_on s (size u) p)) (sym (S.now_is ∙ ap (fork_on (other s) S.b S.o) (other_fork s b t S.n) ∙ other_fork s S.b (fork_on s b t S.n) S.o))
      (go_to s w (place_on s (size S.n) p) (place_on s (size u) p) S.b (fork_on s b t S.n) S.o (place_within s p b t S.n h)
      (go s w p b t S.n h a (sides_of_part w S.n B.1)) (sides_of_part w S.o B.0) (once_place s S.b p S.o S.n u S.is)))
  | inr D ↦
      (let B = parts_on (other s) w D.b D.o (fork_on (other s) D.c D.p D.q) (subst (IsPart w) D.is old) in let C = parts_on (other s) w D.c D.p D.q B.1 in
      subst (ChangesAlong w (place_on s (size u) p)) (sym (D.now_is ∙ ap (fork_on (other s) D.c (fork_on (other s) D.b D.o D.p)) (other_fork s b t D.q) ∙ other_fork s D.c (fork_on s b t D.q) (fork_on (other s) D.b D.o D.p)))
      (go_to s w (place_on s (size D.q) p) (place_on s (size u) p) D.c (fork_on s b t D.q) (fork_on (other s) D.b D.o D.p) (place_within s p b t D.q h)
      (go s w p b t D.q h a (sides_of_part w D.q C.1)) (sides_on (other s) w D.b D.o D.p B.0 C.0) (twice_place s D.b D.c p D.o D.p D.q u D.is)))
]

-- what is left, where the side left something or not
RestAlong : Tree → ℕ → Option Tree → Type 0
RestAlong t p None = Unit {0}
RestAlong t p (Some u) = ChangesAlong t p u

gone_along : (s : Side) (k b : ℕ) (t u : Tree) (o : Option Tree) → take_out k t ≡ o → IsAvl (fork_on s b t u) → TakesHigh t o → RestAlong t (rest_place k t) o → ChangesAlong (fork_on s b t u) (cond (nat_eq (height t) 0) (nearest s (size u)) (place_on s (size u) (rest_place k t))) (beside s b o u)
unfolding RestAlong TakesHigh
gone_along s k b t u None e avl h a = along_part (fork_on s b t u) (cond (nat_eq (height t) 0) (nearest s (size u)) (place_on s (size u) (rest_place k t))) u (part_there s b t u)
gone_along s k b t u (Some v) e avl h a =
    let was : Tree = fork_on s b t u in
    let E = even_sides s b t u avl in let d = E.left_most in let d' = E.right_most in
    let some = some_fork k t v e in
    let n = size_left k t v e in let inside = rest_place-inside k t some in
    let most = h.1 in let least = h.2 in
    let a' = along_wider t (fork_on s b t u) (rest_place k t) v (part_here s b t u) a in
    rw (ne_zero (height t) some) (elim (cases_lt (height v + 1) (height u)) [
      | inl lean ↦ subst (ChangesAlong (fork_on s b t u) (place_on s (size u) (rest_place k t))) (sym (balanced_low s b v u lean))
          (lean_along s (fork_on s b t u) (rest_place k t) b v u (omega arith) (omega arith) a' (part_there s b t u))
      | inr even ↦ subst (ChangesAlong (fork_on s b t u) (place_on s (size u) (rest_place k t))) (sym (balanced_even s b v u (omega arith) even))
          (go s (fork_on s b t u) (rest_place k t) b v u (omega arith) a' (sides_of_part (fork_on s b t u) u (part_there s b t u)))
    ])

rests_along : (k : ℕ) (t : Tree) → IsAvl t → RestAlong t (rest_place k t) (take_out k t)
unfolding RestAlong
rests_along k (leaf x) avl = tt
rests_along k (fork b l r) avl =
    elim (cases_lt k (size l)) [
      | inl lt ↦ rw (lt_is k (size l) lt) (gone_along Left k b l r (take_out k l) refl avl (high-take_out k l avl.2) (rests_along k l avl.2))
      | inr ge ↦ rw (ge_is k (size l) ge) (gone_along Right (k - size l) b r l (take_out (k - size l) r) refl avl (high-take_out (k - size l) r avl.3) (rests_along (k - size l) r avl.3))
    ]

pub along-take_out : (k : ℕ) (t u : Tree) → IsAvl t → take_out k t ≡ Some u → ChangesAlong t (rest_place k t) u
unfolding RestAlong
along-take_out k t u avl e = subst (RestAlong t (rest_place k t)) e (rests_along k t avl)
