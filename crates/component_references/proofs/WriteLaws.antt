-- A rank more is written.
use Rattle.std.proofs.Common.{◌≡◌, ℕ, zero, suc, ◌<◌, List, [], ◌∷◌, ◌++◌, length, take, drop, set, get_or, refl, ap, arith}

pub seam : (xs old : List ℕ) (n : ℕ) → n < length xs → n < length old → set (take n xs ++ drop n old) n (get_or xs n 0) ≡ take (suc n) xs ++ drop (suc n) old
seam [] old n h k = absurd (omega arith)
seam (x ∷ xs) [] n h k = absurd (omega arith)
seam (x ∷ xs) (o ∷ os) zero h k = refl
seam (x ∷ xs) (o ∷ os) (suc n) h k = ap (λ l. x ∷ l) (seam xs os n (omega arith) (omega arith))
