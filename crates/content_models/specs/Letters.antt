-- Which member accepts the names with a symbol.
use Rattle.std.specs.Prelude.{◌≡◌, ◌≢◌, ℕ, ◌<◌, ◌==◌, ◌⊎◌, not, Bool, true, false, List, [], Option, Some, None, map, length, slice_index_or, slice_set, MatchOption}
use Rattle.std.specs.List.{list_any}

-- the list has the number
abbrev pub has : List ℕ → ℕ → Bool
has row n = list_any (λ m. m == n) row

-- the member of this number accepts the symbol
abbrev pub has_at : List (List ℕ) → ℕ → ℕ → Bool
has_at accepted k n = has (slice_index_or accepted k []) n

-- whether the list has a number
abbrev pub is_filled : List ℕ → Bool
is_filled row = not (length row == 0)

-- a member that accepts the symbol, of the first so many; 64 where there is none
abbrev pub IsLetterOf : List (List ℕ) → ℕ → ℕ → ℕ → Type 0
IsLetterOf accepted count n letter =
    ((letter ≡ 64) × ((k : ℕ) → k < count → has_at accepted k n ≡ false)) ⊎ ((letter < count) × (has_at accepted letter n ≡ true))

-- each symbol is accepted by at most one of the first so many members
abbrev pub AreApart : List (List ℕ) → ℕ → Type 0
AreApart accepted count = (n j k : ℕ) → j < count → k < count → has_at accepted j n ≡ true → has_at accepted k n ≡ true → j ≡ k

-- two of these members accept one symbol
abbrev pub Meet : List (List ℕ) → ℕ → ℕ → ℕ × ℕ → Type 0
Meet accepted count symbols pair =
    (pair.0 < count) × (pair.1 < count) × (pair.0 ≢ pair.1) × (n : ℕ) × (n < symbols) × (has_at accepted pair.0 n ≡ true) × (has_at accepted pair.1 n ≡ true)

-- the letters of the symbols, by the first so many members, and two members that accept one symbol
pub record AreLettersOf (accepted : List (List ℕ)) (count symbols : ℕ) (letters : List ℕ) (two : Option (ℕ × ℕ)) : Type 0 where
  pub many : length letters ≡ symbols
  pub each : (n : ℕ) → n < symbols → IsLetterOf accepted count n (slice_index_or letters n 64)
  pub pair : MatchOption two (AreApart accepted count) (Meet accepted count symbols)

-- ---- for proofs

-- the letter of one symbol after the next member, and the earlier member that accepts it
pub record IsNoted (old : List ℕ) (member symbol : ℕ) (new : List ℕ) (pair : Option (ℕ × ℕ)) : Type 0 where
  pub fresh : slice_index_or old symbol 64 ≡ 64 → (new ≡ slice_set old symbol member) × (pair ≡ None)
  pub again : slice_index_or old symbol 64 ≡ member → (new ≡ old) × (pair ≡ None)
  pub met : slice_index_or old symbol 64 ≢ 64 → slice_index_or old symbol 64 ≢ member → (new ≡ old) × (pair ≡ Some (slice_index_or old symbol 64, member))

-- the letters after some symbols of the next member, and an earlier member that accepts one of these
pub record AreNoted (old : List ℕ) (member : ℕ) (row new : List ℕ) (two : Option (ℕ × ℕ)) : Type 0 where
  pub many : length new ≡ length old
  pub fresh : (n : ℕ) → n < length old → has row n ≡ true → slice_index_or old n 64 ≡ 64 → slice_index_or new n 64 ≡ member
  pub known : (n : ℕ) → n < length old → slice_index_or old n 64 ≢ 64 → slice_index_or new n 64 ≡ slice_index_or old n 64
  pub others : (n : ℕ) → n < length old → has row n ≡ false → slice_index_or new n 64 ≡ slice_index_or old n 64
  pub pair : MatchOption two
      ((n : ℕ) → has row n ≡ true → slice_index_or old n 64 ≡ 64)
      (λ p. (p.1 ≡ member) × (p.0 ≢ 64) × (n : ℕ) × (n < length old) × (has row n ≡ true) × (slice_index_or old n 64 ≡ p.0))
