-- Marks after a change.
use Rattle.std.proofs.Common.{◌≡◌, ◌≢◌, ℕ, zero, suc, List, [], ◌∷◌, Bool, true, false, get_or, refl, ap, sym, ◌∙◌}
use Rattle.map_rows.specs.Marks.{marked, IsMarked, IsUnmarked}

pub get-marked_same : (ms : List Bool) (r : ℕ) (b : Bool) → get_or (marked ms r b) r false ≡ b
get-marked_same [] zero b = refl
get-marked_same [] (suc r) b = get-marked_same [] r b
get-marked_same (m ∷ ms) zero b = refl
get-marked_same (m ∷ ms) (suc r) b = get-marked_same ms r b

pub get-marked_other : (ms : List Bool) (r q : ℕ) (b : Bool) → q ≢ r → get_or (marked ms r b) q false ≡ get_or ms q false
get-marked_other [] zero zero b n = absurd (n refl)
get-marked_other [] zero (suc q) b n = refl
get-marked_other [] (suc r) zero b n = refl
get-marked_other [] (suc r) (suc q) b n = get-marked_other [] r q b (λ e. n (ap suc e))
get-marked_other (m ∷ ms) zero zero b n = absurd (n refl)
get-marked_other (m ∷ ms) zero (suc q) b n = refl
get-marked_other (m ∷ ms) (suc r) zero b n = refl
get-marked_other (m ∷ ms) (suc r) (suc q) b n = get-marked_other ms r q b (λ e. n (ap suc e))

pub marked_apart : (ms : List Bool) (r q : ℕ) → IsMarked ms r → IsUnmarked ms q → q ≢ r
marked_apart ms r q m u e = true_is_not_false (sym m ∙ ap (λ k. get_or ms k false) (sym e) ∙ u)
  where
    true_is_not_false : true ≡ false → ⊥
    true_is_not_false x = cc
