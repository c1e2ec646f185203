-- The way down a tree to a place.
use Rattle.std.proofs.Common.{◌≡◌, ℕ, ◌+◌, ◌-◌, ◌<◌, ◌≤◌, cond, Some, refl, inl, inr, arith}
use Rattle.std.specs.Prelude.{nat_eq}
use Rattle.std.proofs.lemmas.Bool.{cases_lt}
use Rattle.leaf_trees.specs.declared.node.Flags.{Flags}
use Rattle.leaf_trees.specs.declared.side.Side.{Side}
use Rattle.leaf_trees.specs.declared.side.Side.TheVariants.{Left, Right}
use Rattle.leaf_trees.specs.declared.side.Way.{Way}
use Rattle.leaf_trees.specs.Tree.{Tree, fork, size, height}
use Rattle.leaf_trees.specs.Side.{other, on, fork_on, way_to, place_on, nearest}
use Rattle.leaf_trees.specs.Balance.{beside, take_out, rest_place, flag_at}
use Rattle.leaf_trees.proofs.Lean.{lt_is, ge_is}

-- place k of a fork is place j of this side
pub record Goes (s : Side) (k j : ℕ) (l r : Tree) : Type 0 where
  pub within : k < size l + size r → j < size (on s l r)
  pub take_is : (b : ℕ) → take_out k (fork b l r) ≡ Some (beside s b (take_out j (on s l r)) (on (other s) l r))
  pub rest_is : (b : ℕ) → rest_place k (fork b l r) ≡ cond (nat_eq (height (on s l r)) 0) (nearest s (size (on (other s) l r))) (place_on s (size (on (other s) l r)) (rest_place j (on s l r)))
  pub flag_is : (f : Flags) (b : ℕ) → flag_at f k (fork b l r) ≡ fork_on s b (flag_at f j (on s l r)) (on (other s) l r)

goes_left : (k : ℕ) (l r : Tree) → k < size l → Goes Left k k l r
goes_left k l r h = record { within = λ _. h; take_is = λ b. rw (lt_is k (size l) h) refl; rest_is = λ b. rw (lt_is k (size l) h) refl; flag_is = λ f b. rw (lt_is k (size l) h) refl }

goes_right : (k : ℕ) (l r : Tree) → size l ≤ k → Goes Right k (k - size l) l r
goes_right k l r h = record { within = λ g. omega arith; take_is = λ b. rw (ge_is k (size l) h) refl; rest_is = λ b. rw (ge_is k (size l) h) refl; flag_is = λ f b. rw (ge_is k (size l) h) refl }

-- the way that the code finds
pub goes : (w : Way) (k n : ℕ) (l r : Tree) → w ≡ way_to k n → n ≡ size l → Goes w.side k w.place l r
goes w k n l r e m = rw (e, m) (elim (cases_lt k (size l)) [
  | inl h ↦ rw (lt_is k (size l) h) (goes_left k l r h)
  | inr h ↦ rw (ge_is k (size l) h) (goes_right k l r h)
])
