-- A list of one.
use Rattle.std.proofs.Common.{◌≡◌, ℕ, List, [], ◌∷◌, length, slice_get, Option, None, Some, sym, ap, arith}
use Rattle.std.specs.Prelude.{IfSome}
use Rattle.std.proofs.lemmas.Option.{same_Some}

pub one-alone : (xs : List ℕ) (o : Option ℕ) → length xs ≡ 1 → o ≡ slice_get xs 0 → IfSome o (λ x. xs ≡ x ∷ [])
one-alone xs None one is = tt
one-alone [] (Some x) one is = absurd (omega (arith, one))
one-alone (y ∷ []) (Some x) one is = ap (λ z. z ∷ []) (sym (same_Some x y is))
one-alone (y ∷ z ∷ xs) (Some x) one is = absurd (omega (arith, one))
