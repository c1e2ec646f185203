-- Lists of the values of a function.
use Rattle.std.proofs.Common.{◌≡◌, ◌≢◌, ℕ, zero, suc, ◌+◌, ◌<◌, min, List, ◌∷◌, length, get_or, set, replicate, refl, ap, ◌∙◌, subst, arith}
use Rattle.map_rows.specs.Rows.{values_from, composed, added}

pub length-values : (f : ℕ → ℕ) (i n : ℕ) → length (values_from f i n) ≡ n
length-values f i zero = refl
length-values f i (suc n) = ap suc (length-values f (i + 1) n)

pub values_at : (f : ℕ → ℕ) (i n k : ℕ) → k < n → get_or (values_from f i n) k 0 ≡ f (i + k)
values_at f i zero k l = absurd (omega arith)
values_at f i (suc n) zero l = ap f (omega arith)
values_at f i (suc n) (suc k) l = values_at f (i + 1) n k (omega arith) ∙ ap f (omega arith)

pub values_alike : (f g : ℕ → ℕ) (i n : ℕ) → ((k : ℕ) → k < n → f (i + k) ≡ g (i + k)) → values_from f i n ≡ values_from g i n
values_alike f g i zero same = refl
values_alike f g i (suc n) same =
    let head : f i ≡ g i = subst (λ j. f j ≡ g j) (omega arith) (same 0 (omega arith)) in
    let tail = values_alike f g (i + 1) n (λ k l. subst (λ j. f j ≡ g j) (omega arith) (same (suc k) (omega arith))) in
    ap (λ x. x ∷ values_from f (i + 1) n) head ∙ ap (λ xs. g i ∷ xs) tail

pub values-zeros : (i n : ℕ) → values_from (λ k. 0) i n ≡ replicate n 0
values-zeros i zero = refl
values-zeros i (suc n) = ap (λ xs. 0 ∷ xs) (values-zeros (i + 1) n)

pub values-set : (f g : ℕ → ℕ) (i n a v : ℕ) → a < n → g (i + a) ≡ v → ((k : ℕ) → k < n → k ≢ a → g (i + k) ≡ f (i + k)) → values_from g i n ≡ set (values_from f i n) a v
values-set f g i zero a v l now other = absurd (omega arith)
values-set f g i (suc n) zero v l now other =
    let head : g i ≡ v = subst (λ j. g j ≡ v) (omega arith) now in
    let tail = values_alike g f (i + 1) n (λ k m. subst (λ j. g j ≡ f j) (omega arith) (other (suc k) (omega arith) (λ e. absurd (omega (arith, e))))) in
    ap (λ x. x ∷ values_from g (i + 1) n) head ∙ ap (λ xs. v ∷ xs) tail
values-set f g i (suc n) (suc a) v l now other =
    let head : g i ≡ f i = subst (λ j. g j ≡ f j) (omega arith) (other 0 (omega arith) (λ e. absurd (omega (arith, e)))) in
    let tail = values-set f g (i + 1) n a v (omega arith) (subst (λ j. g j ≡ v) (omega arith) now) (λ k m e. subst (λ j. g j ≡ f j) (omega arith) (other (suc k) (omega arith) (λ x. e (omega (arith, x))))) in
    ap (λ x. x ∷ values_from g (i + 1) n) head ∙ ap (λ xs. f i ∷ xs) tail

pub composed-values : (f : ℕ → ℕ) (i n : ℕ) (ys : List ℕ) → composed (values_from f i n) ys ≡ values_from (λ k. get_or ys (f k) 0) i n
composed-values f i zero ys = refl
composed-values f i (suc n) ys = ap (λ xs. get_or ys (f i) 0 ∷ xs) (composed-values f (i + 1) n ys)

pub added-values : (cap : ℕ) (f g : ℕ → ℕ) (i n : ℕ) → added cap (values_from f i n) (values_from g i n) ≡ values_from (λ k. min (f k + g k) cap) i n
added-values cap f g i zero = refl
added-values cap f g i (suc n) = ap (λ xs. min (f i + g i) cap ∷ xs) (added-values cap f g (i + 1) n)
