-- An order along references, and heights that are set in it.
use Rattle.std.specs.Prelude.{◌≡◌, ℕ, ◌<◌, List, Contains, All, take, length, slice_index}
use Rattle.component_references.specs.NumberedCircles.{refs_of, rank_above}

-- each part before this place stands behind what it refers to
abbrev pub AreBehind : List (List ℕ) → List ℕ → Type 0
AreBehind refs order = (i : ℕ) → i < length order → All (Contains (take i order)) (refs_of refs (slice_index order i))

-- all parts, each behind those that it refers to
pub record IsInOrder (refs : List (List ℕ)) (order : List ℕ) : Type 0 where
  pub there : All (λ x. x < length refs) order
  pub each : (x : ℕ) → x < length refs → Contains order x
  pub behind : AreBehind refs order

-- the parts before this place have their heights
pub record AreSet (refs : List (List ℕ)) (order ranks : List ℕ) (i : ℕ) : Type 0 where
  pub len : length ranks ≡ length refs
  pub heights : (k : ℕ) → k < i → slice_index ranks (slice_index order k) ≡ rank_above ranks (refs_of refs (slice_index order k))
