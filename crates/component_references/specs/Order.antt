-- The parts of one kind, lowest rank first, and a table filled in that order.
use Rattle.std.specs.Prelude.{◌≡◌, ℕ, ◌<◌, List, Some, All, Contains, length, slice_get, slice_index}
use Rattle.std.specs.List.Sorted.{IsNonDecreasingBy}

-- the numbers below a count, and no others
pub record AreNumbers (count : ℕ) (xs : List ℕ) : Type 0 where
  pub there : All (λ x. x < count) xs
  pub each : (x : ℕ) → x < count → Contains xs x

-- the numbers of all parts, none of them behind one of higher rank
pub record IsOrder (count : ℕ) (ranks order : List ℕ) : Type 0 where
  pub there : All (λ x. x < count) order
  pub each : (x : ℕ) → x < count → Contains order x
  pub rises : IsNonDecreasingBy (slice_index ranks) order

-- the table has the values of the parts of lower rank
abbrev pub IsFilledBelow : {V : Type 0} → ℕ → List ℕ → (ℕ → V) → ℕ → List V → Type 0
IsFilledBelow count ranks value rank table = (y : ℕ) → y < count → slice_index ranks y < rank → slice_get table y ≡ Some (value y)

-- ranks that are places: each once, and below the number of parts
pub record ArePlaces (ranks : List ℕ) : Type 0 where
  pub within : (x : ℕ) → x < length ranks → slice_index ranks x < length ranks
  pub once : (x y : ℕ) → x < length ranks → y < length ranks → slice_index ranks x ≡ slice_index ranks y → x ≡ y
