-- A leaf taken out of a tree.
use Rattle.std.proofs.Common.{◌≡◌, ◌⊎◌, ℕ, zero, suc, ◌+◌, ◌-◌, ◌<◌, ◌≤◌, max, true, false, cond, Option, Some, None, List, [], ◌++◌, remove, refl, sym, ap, ◌∙◌, subst, inl, inr, arith, append-nil}
use Rattle.std.specs.Prelude.{nat_lt, nat_eq}
use Rattle.std.proofs.lemmas.Bool.{cases_lt}
use Rattle.std.proofs.lemmas.Bool.Decides.{nat_tests}
use Rattle.std.proofs.lemmas.List.Edits.{remove-append_left, remove-append_right}
use Rattle.leaf_trees.specs.declared.node.Node.{Node}
use Rattle.leaf_trees.specs.declared.edit.Cut.{Cut}
use Rattle.leaf_trees.specs.declared.side.Side.{Side}
use Rattle.leaf_trees.specs.declared.side.Side.TheVariants.{Left, Right}
use Rattle.leaf_trees.specs.Tree.{Item, Tree, leaf, fork, size, height, leaves, Has, IsAvl}
use Rattle.leaf_trees.specs.Side.{other, on, fork_on, place_on, nearest}
use Rattle.leaf_trees.specs.Balance.{take_out, beside, balanced, rest_place}
use Rattle.leaf_trees.specs.Change.{Sides, Becomes}
use Rattle.leaf_trees.specs.Cut.{CutsTo, Stays}
use Rattle.leaf_trees.proofs.Held.{positive, has_top}
use Rattle.leaf_trees.proofs.Turns.{new_first, then_first, beside_first, in_side}
use Rattle.leaf_trees.proofs.Lean.{lt_is, ge_is}
use Rattle.leaf_trees.proofs.Leaned.{even_sides, height-fork_on}
use Rattle.leaf_trees.proofs.Ways.{Goes}
use Rattle.leaf_trees.proofs.Balanced.{size-balanced, leaves-balanced, length-leaves, balances}
use Rattle.leaf_trees.proofs.Parts.{Down}

-- how many leaves are left, and which
pub rest_size : Option Tree → ℕ
rest_size None = 0
rest_size (Some t) = size t

abbrev pub rest_leaves : Option Tree → List Item
rest_leaves None = []
rest_leaves (Some t) = leaves t

rest_some : (t : Tree) → rest_size (Some t) ≡ size t
unfolding rest_size
rest_some t = refl

size-rest : (s : Side) (b : ℕ) (o : Option Tree) (u : Tree) → size (beside s b o u) ≡ rest_size o + size u
unfolding rest_size
size-rest s b None u = omega arith
size-rest s b (Some t) u = size-balanced s b t u

pub size-take_out : (k : ℕ) (t : Tree) → rest_size (take_out k t) + 1 ≡ size t
unfolding rest_size
size-take_out k (leaf x) = refl
size-take_out k (fork b l r) =
    elim (nat_lt k (size l)) as (λ c. size (cond c (beside Left b (take_out k l) r) (beside Right b (take_out (k - size l) r) l)) + 1 ≡ size l + size r) [
      | true ↦ (let e = size-take_out k l in let f = size-rest Left b (take_out k l) r in omega arith)
      | false ↦ (let e = size-take_out (k - size l) r in let f = size-rest Right b (take_out (k - size l) r) l in omega arith)
    ]

pub size_left : (k : ℕ) (t u : Tree) → take_out k t ≡ Some u → size u + 1 ≡ size t
size_left k t u e = ap (λ n. n + 1) (sym (rest_some u)) ∙ ap (λ o. rest_size o + 1) (sym e) ∙ size-take_out k t

leaves-rest_left : (b : ℕ) (o : Option Tree) (u : Tree) → leaves (beside Left b o u) ≡ rest_leaves o ++ leaves u
leaves-rest_left b None u = refl
leaves-rest_left b (Some t) u = leaves-balanced Left b t u

leaves-rest_right : (b : ℕ) (o : Option Tree) (u : Tree) → leaves (beside Right b o u) ≡ leaves u ++ rest_leaves o
leaves-rest_right b None u = sym (append-nil (leaves u))
leaves-rest_right b (Some t) u = leaves-balanced Right b t u

-- the item at the place is gone
pub leaves-take_out : (k : ℕ) (t : Tree) → k < size t → rest_leaves (take_out k t) ≡ remove (leaves t) k
leaves-take_out zero (leaf x) h = refl
leaves-take_out (suc k) (leaf x) h = absurd (omega arith)
leaves-take_out k (fork b l r) h =
    elim (cases_lt k (size l)) [
      | inl lt ↦ rw (lt_is k (size l) lt)
          (leaves-rest_left b (take_out k l) r ∙ ap (λ (xs : List Item). xs ++ leaves r) (leaves-take_out k l lt) ∙ sym (remove-append_left (leaves l) (leaves r) k (rw length-leaves lt)))
      | inr ge ↦ rw (ge_is k (size l) ge)
          (leaves-rest_right b (take_out (k - size l) r) l ∙ ap (λ (xs : List Item). leaves l ++ xs) (leaves-take_out (k - size l) r (omega arith)) ∙ sym (remove-append_right (leaves l) (leaves r) (size l) k (length-leaves l) ge))
    ]

pub none_leaf : (k : ℕ) (t : Tree) → take_out k t ≡ None → height t ≡ 0
none_leaf k (leaf x) e = refl
none_leaf k (fork b l r) e = absurd (cc)

pub some_fork : (k : ℕ) (t u : Tree) → take_out k t ≡ Some u → 0 < height t
some_fork k (leaf x) u e = absurd (cc)
some_fork k (fork b l r) u e = omega arith

pub eq_zero : (n : ℕ) → n ≡ 0 → nat_eq n 0 ≡ true
eq_zero n e = grind (arith, nat_tests)

pub ne_zero : (n : ℕ) → 0 < n → nat_eq n 0 ≡ false
ne_zero n e = grind (arith, nat_tests)

-- a leaf of one side goes
module _ (s : Side) (ns : List Node) (top a b k j : ℕ) (t : Tree) (P : Down s ns top a b t) (G : Goes s k j P.l P.r) where
  abbrev here : Tree
  here = on s P.l P.r

  abbrev there : Tree
  there = on (other s) P.l P.r

  abbrev both : Sides ns top a b here there
  both = P.both

  here_in : Has here a
  here_in = has_top here a both.left

  -- it was all of that side
  pub cut_leaf : (ms : List Node) → Stays ns ms here j → CutsTo ns ms t k (record { top = b; place = nearest s (size there); item = a; fork = top })
  cut_leaf ms S = subst (λ (w : List Node). CutsTo ns w t k (record { top = b; place = nearest s (size there); item = a; fork = top })) (sym S.same) (subst (λ (x : Tree). CutsTo ns ns x k (record { top = b; place = nearest s (size there); item = a; fork = top })) (sym P.is) (record {
    now = there;
    left = G.take_is top ∙ ap (λ o. Some (beside s top o there)) S.left;
    becomes = record { len = refl; top_is = both.right; holds = both.holds_right; apart = both.apart.4; inside = in_side (other s) top P.l P.r; others = λ i n. refl; taken = λ i h. h };
    place_is = sym (G.rest_is top ∙ ap (λ c. cond c (nearest s (size there)) (place_on s (size there) (rest_place j here))) (eq_zero (height here) (none_leaf j here S.left)));
    item = in_side s top P.l P.r a here_in;
    fork = inl refl;
    not_item = λ h. both.apart.2.apart a here_in h;
    not_fork = both.apart.1;
    differ = λ e. both.apart.0 (subst (Has here) e here_in);
  }))

  -- something is left of it
  module _ (ms : List Node) (cut : Cut) (C : CutsTo ns ms here j cut) where
    pub cut_sides : Sides ms top cut.top b C.now there
    cut_sides = new_first ns ms top cut.top b here C.now there (beside_first ns top a b here there both) C.becomes (let few = both.few in let n = size_left j here C.now C.left in omega arith)

    pub cut_whole : (ks : List Node) (joined : ℕ) → Becomes ms ks joined (fork top C.now there) (balanced s top C.now there) → CutsTo ns ks t k (record cut { top = joined; place = place_on s (size there) cut.place })
    cut_whole ks joined B = subst (λ (x : Tree). CutsTo ns ks x k (record cut { top = joined; place = place_on s (size there) cut.place })) (sym P.is) (record {
      now = balanced s top C.now there;
      left = G.take_is top ∙ ap (λ o. Some (beside s top o there)) C.left;
      becomes = then_first ns ms ks top cut.top joined here C.now there (balanced s top C.now there) (fork top P.l P.r) C.becomes B (in_side s top P.l P.r) (inl refl) (in_side (other s) top P.l P.r);
      place_is = ap (place_on s (size there)) C.place_is ∙ sym (G.rest_is top ∙ ap (λ c. cond c (nearest s (size there)) (place_on s (size there) (rest_place j here))) (ne_zero (height here) (some_fork j here C.now C.left)));
      item = in_side s top P.l P.r cut.item C.item;
      fork = in_side s top P.l P.r cut.fork C.fork;
      not_item = λ h. gone cut.item C.item C.not_item (B.inside cut.item h);
      not_fork = λ h. gone cut.fork C.fork C.not_fork (B.inside cut.fork h);
      differ = C.differ;
    })
      where
        gone : (i : ℕ) → Has here i → ¬ Has C.now i → Has (fork top C.now there) i → ⊥
        gone i was never h = elim h [ inl e ↦ both.apart.0 (subst (Has here) e was) | inr y ↦ elim y [ inl x ↦ never x | inr x ↦ both.apart.2.apart i was x ] ]

-- the place of a leaf beside is one of the tree's
pub rest_place-below : (k : ℕ) (t : Tree) → rest_place k t < size t
rest_place-below k (leaf x) = omega arith
rest_place-below k (fork b l r) =
    let p = positive l in let q = positive r in
    elim (nat_lt k (size l)) as (λ c. cond c (cond (nat_eq (height l) 0) 0 (rest_place k l)) (cond (nat_eq (height r) 0) (size l - 1) (size l + rest_place (k - size l) r)) < size l + size r) [
      | true ↦ elim (nat_eq (height l) 0) as (λ c. cond c 0 (rest_place k l) < size l + size r) [ true ↦ omega arith | false ↦ (let h = rest_place-below k l in omega arith) ]
      | false ↦ elim (nat_eq (height r) 0) as (λ c. cond c (size l - 1) (size l + rest_place (k - size l) r) < size l + size r) [ true ↦ omega arith | false ↦ (let h = rest_place-below (k - size l) r in omega arith) ]
    ]

-- the tree stays balanced, and is at most one level lower
unfoldable pub TakesHigh : Tree → Option Tree → Type 0
TakesHigh t None = height t ≡ 0
TakesHigh t (Some u) = IsAvl u × (height u ≤ height t) × (height t ≤ height u + 1)

-- the height after a side shrank
shrunk : (l r l' r' n : ℕ) → l ≤ r + 1 → r ≤ l + 1 → l' ≤ l → l ≤ l' + 1 → r' ≤ r → r ≤ r' + 1 → (l ≤ l') ⊎ (r ≤ r') → max l' r' ≤ n → n ≤ max l' r' + 1 → (l' ≤ r' + 1 → r' ≤ l' + 1 → n ≡ max l' r' + 1) → (n ≤ max l r + 1) × (max l r + 1 ≤ n + 1)
shrunk l r l' r' n a a' b b' c c' one least most even =
    elim (cases_lt (r' + 1) l') [
      | inl h ↦ (omega arith, omega arith)
      | inr h ↦ elim (cases_lt (l' + 1) r') [
        | inl k ↦ (omega arith, omega arith)
        | inr k ↦ (let e = even h k in (omega arith, omega arith))
      ]
    ]

high_rest : (s : Side) (b : ℕ) (t u : Tree) (o : Option Tree) → IsAvl (fork_on s b t u) → TakesHigh t o → TakesHigh (fork_on s b t u) (Some (beside s b o u))
unfolding TakesHigh
high_rest s b t u None avl h =
    let E = even_sides s b t u avl in let d = E.left_most in let d' = E.right_most in let n = height-fork_on s b t u in
    (E.right_avl, omega arith, omega arith)
high_rest s b t u (Some v) avl h =
    let E = even_sides s b t u avl in let d = E.left_most in let d' = E.right_most in let n = height-fork_on s b t u in
    let most = h.1 in let least = h.2 in
    let B = balances s b v u h.0 E.right_avl (omega arith) (omega arith) in
    let g = shrunk (height t) (height u) (height v) (height u) (height (balanced s b v u)) d d' most least (omega arith) (omega arith) (inr (omega arith)) B.least B.most B.even in
    (B.avl, omega (arith, g.0), omega (arith, g.1))

pub high-take_out : (k : ℕ) (t : Tree) → IsAvl t → TakesHigh t (take_out k t)
unfolding TakesHigh
high-take_out k (leaf x) avl = refl
high-take_out k (fork b l r) avl =
    elim (nat_lt k (size l)) as (λ c. TakesHigh (fork b l r) (Some (cond c (beside Left b (take_out k l) r) (beside Right b (take_out (k - size l) r) l)))) [
      | true ↦ high_rest Left b l r (take_out k l) avl (high-take_out k l avl.2)
      | false ↦ high_rest Right b r l (take_out (k - size l) r) avl (high-take_out (k - size l) r avl.3)
    ]

pub avl-take_out : (k : ℕ) (t u : Tree) → IsAvl t → take_out k t ≡ Some u → IsAvl u
unfolding TakesHigh
avl-take_out k t u avl e = (subst (TakesHigh t) e (high-take_out k t avl)).0
