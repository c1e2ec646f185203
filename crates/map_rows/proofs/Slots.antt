-- Cells after a write.
use Rattle.std.proofs.Common.{◌≡◌, ℕ, zero, suc, ◌+◌, ◌<◌, List, [], ◌∷◌, ◌++◌, length, set, drop, replicate, Option, None, Some, refl, sym, ap, ◌∙◌, inl, inr, arith, get_or-set_same, get_or-set_other, add-one}
use Rattle.std.proofs.lemmas.Bool.{cases_eq}
use Rattle.std.proofs.lemmas.List.{map-set, length-map}
use Rattle.std.specs.Option.{unwrap_or}
use Rattle.map_rows.specs.Memory.{IsFilled}
use Rattle.map_rows.specs.Piece.{numbers_of}

-- one cell more holds x
filled_suc : (x : Option ℕ) (ys : List (Option ℕ)) (i : ℕ) → i < length ys → set (replicate i x ++ drop i ys) i x ≡ replicate (suc i) x ++ drop (suc i) ys
filled_suc x [] i l = absurd (omega arith)
filled_suc x (y ∷ ys) zero l = refl
filled_suc x (y ∷ ys) (suc i) l = ap (λ zs. x ∷ zs) (filled_suc x ys i (omega arith))

pub filled_more : (x : Option ℕ) (ys : List (Option ℕ)) (i : ℕ) → i < length ys → set (replicate i x ++ drop i ys) i x ≡ replicate (i + 1) x ++ drop (i + 1) ys
filled_more x ys i l = filled_suc x ys i l ∙ ap (λ j. replicate j x ++ drop j ys) (sym (add-one i))

pub filled_long : (x : Option ℕ) (ys : List (Option ℕ)) (i : ℕ) → i < length ys → i < length (replicate i x ++ drop i ys)
filled_long x [] i l = absurd (omega arith)
filled_long x (y ∷ ys) zero l = omega arith
filled_long x (y ∷ ys) (suc i) l = omega (arith, filled_long x ys i (omega arith))

pub filled_whole : (x : Option ℕ) (ys : List (Option ℕ)) → replicate (length ys) x ++ drop (length ys) ys ≡ replicate (length ys) x
filled_whole x [] = refl
filled_whole x (y ∷ ys) = ap (λ zs. x ∷ zs) (filled_whole x ys)

-- cells that all hold a number still do after a write
pub still_filled : (cs : List (Option ℕ)) (i x len : ℕ) → length cs ≡ len → i < len → ((j : ℕ) → j < len → IsFilled cs j) → (j : ℕ) → j < len → IsFilled (set cs i (Some x)) j
still_filled cs i x len n l filled j m = elim (cases_eq j i) [
  | inl e ↦ (x, rw e (get_or-set_same cs i (Some x) None (rw n l)))
  | inr e ↦ (let f = filled j m in (f.0, get_or-set_other cs i j (Some x) None e ∙ f.1))
]

pub numbers-set : (cs : List (Option ℕ)) (i x : ℕ) → numbers_of (set cs i (Some x)) ≡ set (numbers_of cs) i x
numbers-set cs i x = map-set (λ (c : Option ℕ). unwrap_or c 0) cs i (Some x)

-- zeros are numbers
pub zeros_filled : (len j : ℕ) → j < len → IsFilled (replicate len (Some 0)) j
zeros_filled zero j l = absurd (omega arith)
zeros_filled (suc len) zero l = (0, refl)
zeros_filled (suc len) (suc j) l = zeros_filled len j (omega arith)

pub numbers-zeros : (len : ℕ) → numbers_of (replicate len (Some 0)) ≡ replicate len 0
numbers-zeros zero = refl
numbers-zeros (suc len) = ap (λ zs. 0 ∷ zs) (numbers-zeros len)

pub length-numbers : (cs : List (Option ℕ)) → length (numbers_of cs) ≡ length cs
length-numbers cs = length-map cs (λ (c : Option ℕ). unwrap_or c 0)
