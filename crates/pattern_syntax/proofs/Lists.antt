-- Lists with their last item changed.
use Rattle.std.proofs.Common.{◌≡◌, List, [], ◌∷◌, ◌++◌, refl, ap}
use Rattle.pattern_syntax.specs.Built.{change_last}

pub change_last_snoc : {A : Type 0} (f : A → A) (xs : List A) (x : A) → change_last f (xs ++ x ∷ []) ≡ xs ++ f x ∷ []
change_last_snoc f [] x = refl
change_last_snoc f (y ∷ []) x = refl
change_last_snoc f (y ∷ (z ∷ zs)) x = ap (λ l. y ∷ l) (change_last_snoc f (z ∷ zs) x)
