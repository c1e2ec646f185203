-- How often things were added and not dropped.
use Rattle.std.specs.Prelude.{◌≡◌, ℕ, ◌+◌, ◌≤◌, Bool, false, if◌then◌else◌, List, All, sum, unwrap_or}
use Rattle.std.specs.List.{IsDistinct}
use Rattle.std.specs.Map.{lookup, keys_of, values_of}

module _ {K : Type 0} (eq : K → K → Bool) where
  -- the count of a thing
  abbrev pub count_of : List (K × ℕ) → K → ℕ
  count_of counts key = unwrap_or (lookup (eq key) counts) 0

  -- the one list of counts has the thing once more than the other, and all else as often
  abbrev pub IsOneMore : List (K × ℕ) → List (K × ℕ) → K → Type 0
  IsOneMore fewer more key = (other : K) → count_of more other ≡ count_of fewer other + (if eq key other then 1 else 0)

  -- something is there more than once
  abbrev pub HasRepeated : List (K × ℕ) → Type 0
  HasRepeated counts = (key : K) × (2 ≤ count_of counts key)

  -- two different things are there
  abbrev pub HasSeveral : List (K × ℕ) → Type 0
  HasSeveral counts = (one : K) × (other : K) × (eq one other ≡ false) × (1 ≤ count_of counts one) × (1 ≤ count_of counts other)

  -- each thing stands once in the list, with a count of at least 1
  pub record AreCounts (counts : List (K × ℕ)) : Type 0 where
    pub distinct : IsDistinct eq (keys_of counts)
    pub present : All (λ n. 1 ≤ n) (values_of counts)

  -- what is true of the counts that are kept, and of their sum
  pub record IsTallied (counts : List (K × ℕ)) (total : ℕ) : Type 0 where
    pub counts_are : AreCounts counts
    pub total_is : total ≡ sum (values_of counts)
