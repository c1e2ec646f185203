-- Keys that are numbered in the order of coming: a list, in which the number of a key is its place.
use Rattle.std.specs.Prelude.{◌≡◌, ℕ, Bool, List, [], ◌∷◌, ◌++◌, if◌then◌else◌, position, bytes_eq}
use Rattle.std.specs.List.{list_any}
use Rattle.std.specs.Map.{lookup}

module _ {K : Type 0} (eq : K → K → Bool) where
  -- the list with the key in it, which comes last where none that is equal was there
  abbrev pub with_key : List K → K → List K
  with_key keys key = if list_any (eq key) keys then keys else keys ++ key ∷ []

  -- what a set keeps beside its keys: the entries give each key the place of the first that is equal to it, and others none
  abbrev pub ArePlaces : List K → List (K × ℕ) → Type 0
  ArePlaces keys entries = (key : K) → lookup (eq key) entries ≡ position (eq key) keys

-- the same of texts, which are looked up by their bytes
abbrev pub AreTextPlaces : {K : Type 0} → (K → List ℕ) → List (List ℕ) → List (K × ℕ) → Type 0
AreTextPlaces bytes texts entries = (text : List ℕ) → lookup (λ k. bytes_eq text (bytes k)) entries ≡ position (bytes_eq text) texts
