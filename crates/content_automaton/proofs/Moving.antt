-- Members of a list that is read up to a place.
use Rattle.std.proofs.Common.{◌≡◌, ℕ, zero, suc, ◌+◌, ◌<◌, ◌⊎◌, List, [], ◌∷◌, length, get_or, take, sym, inl, inr, arith}
use Rattle.std.specs.Prelude.{Contains}
use Rattle.std.proofs.lemmas.List.{take_more}
use Rattle.std.proofs.lemmas.List.Elements.{Contains-append_left, Contains-append_right, Contains-append_cases}

pub contains_one : (x y : ℕ) → Contains (x ∷ []) y → y ≡ x
contains_one x y (zero, l, e) = sym e
contains_one x y (suc k, l, e) = absurd (omega arith)

-- the first numbers of a list, and one more
pub taken_cases : (xs : List ℕ) (i y : ℕ) → i < length xs → Contains (take (i + 1) xs) y → Contains (take i xs) y ⊎ (y ≡ get_or xs i 0)
taken_cases xs i y l c = elim (Contains-append_cases (take i xs) (get_or xs i 0 ∷ []) y (rw (take_more xs i 0 l) at c)) [
  | inl a ↦ inl a
  | inr b ↦ inr (contains_one (get_or xs i 0) y b)
]

pub taken_from : (xs : List ℕ) (i y : ℕ) → i < length xs → Contains (take i xs) y ⊎ (y ≡ get_or xs i 0) → Contains (take (i + 1) xs) y
taken_from xs i y l h =
    rw (take_more xs i 0 l) (elim h [
      | inl a ↦ Contains-append_left (take i xs) (get_or xs i 0 ∷ []) y a
      | inr b ↦ Contains-append_right (take i xs) (get_or xs i 0 ∷ []) y (0, omega arith, sym b)
    ])
