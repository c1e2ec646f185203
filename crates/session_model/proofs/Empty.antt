-- A list of no items.
use Rattle.std.proofs.Common.{◌≡◌, List, [], ◌∷◌, length, refl}

pub no_length : {X : Type 0} (xs : List X) → length xs ≡ 0 → xs ≡ []
no_length [] e = refl
no_length (x ∷ xs) e = cc
