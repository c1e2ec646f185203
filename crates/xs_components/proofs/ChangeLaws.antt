-- A part changed in its place.
use Rattle.std.proofs.Common.{◌≡◌, ℕ, zero, suc, List, [], ◌∷◌, Some, slice_get, slice_set, ap}
use Rattle.xs_components.specs.Table.{change_at}

module _ {T : Type 0} (f : T → T) where
  -- the item of an index changed is the changed item put there
  pub change_at-set : (xs : List T) (n : ℕ) (x : T) → slice_get xs n ≡ Some x → change_at xs n f ≡ slice_set xs n (f x)
  change_at-set [] n x e = cc
  change_at-set (y ∷ ys) zero x e = ap (λ v. f v ∷ ys) (cc)
  change_at-set (y ∷ ys) (suc n) x e = ap (λ l. y ∷ l) (change_at-set ys n x e)
