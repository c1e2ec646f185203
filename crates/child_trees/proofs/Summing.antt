-- Sums at forks, and what changes them.
use Rattle.std.proofs.Common.{◌≡◌, ◌≢◌, ℕ, ◌-◌, ◌<◌, ◌≤◌, Bool, true, false, List, length, refl, sym, ◌∙◌, subst, inl, inr, arith}
use Rattle.std.specs.Prelude.{nat_lt, MatchBool}
use Rattle.std.proofs.lemmas.Bool.Decides.{nat_tests}
use Rattle.leaf_trees.specs.declared.node.Node.{Node}
use Rattle.leaf_trees.specs.Tree.{Tree, leaf, fork, root, size, Has, Apart}
use Rattle.leaf_trees.proofs.Held.{Has-root}
use Rattle.child_trees.specs.Cells.{CellMaps, SetsMap}
use Rattle.child_trees.specs.Sums.{IsForkIn, AreSums, AreSidesSums, AreSumsBut, HasCells, SameSlots}

pub lt_true : (k n : ℕ) → k < n → nat_lt k n ≡ true
lt_true k n l = grind (arith, nat_tests)

pub lt_false : (k n : ℕ) → n ≤ k → nat_lt k n ≡ false
lt_false k n l = grind (arith, nat_tests)

-- a fork of a tree is one of its nodes
pub fork_has : (t : Tree) (j : ℕ) → IsForkIn t j → Has t j
fork_has (leaf x) j h = absurd h
fork_has (fork i l r) j (inl e) = inl e
fork_has (fork i l r) j (inr (inl h)) = inr (inl (fork_has l j h))
fork_has (fork i l r) j (inr (inr h)) = inr (inr (fork_has r j h))

-- more slots than before still have cells
pub has_cells : (n m : ℕ) (ns : List Node) (top : ℕ) (t : Tree) → n ≤ m → HasCells n ns top t → HasCells m ns top t
has_cells n m ns top t le h = record { has = h.has; within = λ j k. (let w = h.within j k in omega (arith, w, le)) }

pub same_slots : {Shape Map : Type 0} (u v w : CellMaps Shape Map) → SameSlots u v → SameSlots v w → SameSlots u w
same_slots u v w a b = record { size = b.size ∙ a.size; shape = b.shape ∙ a.shape }

pub set_slots : {Shape Map : Type 0} (unit : Shape → Map) (u v : CellMaps Shape Map) (i : ℕ) (m : Map) → SetsMap unit u v i m → SameSlots u v
set_slots unit u v i m s = record { size = s.size; shape = s.shape }

-- both outcomes of a test
pub of_test : {P Q P' Q' : Type 0} (b : Bool) → (P → P') → (Q → Q') → MatchBool b P Q → MatchBool b P' Q'
of_test true f g h = f h
of_test false f g h = g h

module _ {Map : Type 0} (join : Map → Map → Map) where
  -- sums stay where the maps of the tree's nodes do
  pub sums_stay : (f g : ℕ → Map) (t : Tree) → ((j : ℕ) → Has t j → g j ≡ f j) → AreSums join f t → AreSums join g t
  sums_stay f g (leaf x) same s = tt
  sums_stay f g (fork i l r) same s =
      let a = same (root l) (inr (inl (Has-root l))) in
      let b = same (root r) (inr (inr (Has-root r))) in
      (same i (inl refl) ∙ s.0 ∙ sym (λ k. join (a k) (b k)), sums_stay f g l (λ j h. same j (inr (inl h))) s.1, sums_stay f g r (λ j h. same j (inr (inr h))) s.2)

  pub sides_stay : (f g : ℕ → Map) (t : Tree) → ((j : ℕ) → Has t j → g j ≡ f j) → AreSidesSums join f t → AreSidesSums join g t
  sides_stay f g (leaf x) same s = tt
  sides_stay f g (fork i l r) same s = (sums_stay f g l (λ j h. same j (inr (inl h))) s.0, sums_stay f g r (λ j h. same j (inr (inr h))) s.1)

  pub but_stay : (f g : ℕ → Map) (k : ℕ) (t : Tree) → ((j : ℕ) → Has t j → g j ≡ f j) → AreSumsBut join f k t → AreSumsBut join g k t
  but_stay f g k (leaf x) same s = tt
  but_stay f g k (fork i l r) same s =
      of_test (nat_lt k (size l))
      (λ h. (but_stay f g k l (λ j w. same j (inr (inl w))) h.0, sides_stay f g r (λ j w. same j (inr (inr w))) h.1))
      (λ h. (sides_stay f g l (λ j w. same j (inr (inl w))) h.0, but_stay f g (k - size l) r (λ j w. same j (inr (inr w))) h.1))
      s

  -- the sides of a tree of sums are trees of sums
  pub sides_of_sums : (f : ℕ → Map) (t : Tree) → AreSums join f t → AreSidesSums join f t
  sides_of_sums f (leaf x) s = tt
  sides_of_sums f (fork i l r) s = (s.1, s.2)

  module _ (i k : ℕ) (l r : Tree) where
    -- the two sides of a fork, by the side that the place is on
    pub but_left : (f : ℕ → Map) → k < size l → AreSumsBut join f k (fork i l r) → AreSumsBut join f k l × AreSidesSums join f r
    but_left f lt s = let e = lt_true k (size l) lt in subst (λ b. MatchBool b (AreSumsBut join f k l × AreSidesSums join f r) (AreSidesSums join f l × AreSumsBut join f (k - size l) r)) e s

    pub but_right : (f : ℕ → Map) → size l ≤ k → AreSumsBut join f k (fork i l r) → AreSidesSums join f l × AreSumsBut join f (k - size l) r
    but_right f ge s = let e = lt_false k (size l) ge in subst (λ b. MatchBool b (AreSumsBut join f k l × AreSidesSums join f r) (AreSidesSums join f l × AreSumsBut join f (k - size l) r)) e s

  module _ (i : ℕ) (l r : Tree) (apart : Apart (fork i l r)) where
    pub left_not_top : (j : ℕ) → Has l j → j ≢ i
    left_not_top j h e = apart.0 (subst (Has l) e h)

    pub right_not_top : (j : ℕ) → Has r j → j ≢ i
    right_not_top j h e = apart.1 (subst (Has r) e h)

    -- a fork is summed up
    pub sum_made : (f g : ℕ → Map) → g i ≡ join (f (root l)) (f (root r)) → ((j : ℕ) → j ≢ i → g j ≡ f j) → AreSums join f l → AreSums join f r → AreSums join g (fork i l r)
    sum_made f g e same a b =
        let x = same (root l) (left_not_top (root l) (Has-root l)) in
        let y = same (root r) (right_not_top (root r) (Has-root r)) in
        (e ∙ sym (λ k. join (x k) (y k)), sums_stay f g l (λ j h. same j (left_not_top j h)) a, sums_stay f g r (λ j h. same j (right_not_top j h)) b)

    -- no node of one side is a fork of the other
    pub left_no_fork : (j : ℕ) → Has r j → ¬ IsForkIn l j
    left_no_fork j h k = apart.2.apart j (fork_has l j k) h

    pub right_no_fork : (j : ℕ) → Has l j → ¬ IsForkIn r j
    right_no_fork j h k = apart.2.apart j h (fork_has r j k)

    -- first the way down on the left, then the right side, then the fork itself
    pub along_left : (f g h m : ℕ → Map) → ((j : ℕ) → ¬ IsForkIn l j → g j ≡ f j) → ((j : ℕ) → ¬ IsForkIn r j → h j ≡ g j) → ((j : ℕ) → j ≢ i → m j ≡ h j) → m i ≡ join (h (root l)) (h (root r)) → AreSums join g l → AreSidesSums join f r → (AreSidesSums join g r → AreSums join h r) → AreSums join m (fork i l r)
    along_left f g h m fg gh hm e gl fr hr =
        sum_made h m e hm
        (sums_stay g h l (λ j k. gh j (right_no_fork j k)) gl)
        (hr (sides_stay f g r (λ j k. fg j (left_no_fork j k)) fr))

    -- first the left side, then the way down on the right, then the fork itself
    pub along_right : (f g h m : ℕ → Map) (k : ℕ) → ((j : ℕ) → ¬ IsForkIn l j → g j ≡ f j) → ((j : ℕ) → ¬ IsForkIn r j → h j ≡ g j) → ((j : ℕ) → j ≢ i → m j ≡ h j) → m i ≡ join (h (root l)) (h (root r)) → AreSums join g l → AreSumsBut join f k r → (AreSumsBut join g k r → AreSums join h r) → AreSums join m (fork i l r)
    along_right f g h m k fg gh hm e gl fr hr =
        sum_made h m e hm
        (sums_stay g h l (λ j w. gh j (right_no_fork j w)) gl)
        (hr (but_stay f g k r (λ j w. fg j (left_no_fork j w)) fr))

  -- the same for the maps that stay
  pub along_same : (i : ℕ) (l r : Tree) (f g h m : ℕ → Map) → ((j : ℕ) → ¬ IsForkIn l j → g j ≡ f j) → ((j : ℕ) → ¬ IsForkIn r j → h j ≡ g j) → ((j : ℕ) → j ≢ i → m j ≡ h j) → (j : ℕ) → ¬ IsForkIn (fork i l r) j → m j ≡ f j
  along_same i l r f g h m fg gh hm j n = hm j (λ e. n (inl e)) ∙ gh j (λ k. n (inr (inr k))) ∙ fg j (λ k. n (inr (inl k)))

pub has_slots : {Shape Map : Type 0} (u v : CellMaps Shape Map) (ns : List Node) (top : ℕ) (t : Tree) → SameSlots u v → HasCells (length u.maps) ns top t → HasCells (length v.maps) ns top t
has_slots u v ns top t s h = has_cells (length u.maps) (length v.maps) ns top t (let e = s.size in omega arith) h
