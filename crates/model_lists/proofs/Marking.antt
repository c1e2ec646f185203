-- Items at places, and the places of marked leaves.
use Rattle.std.proofs.Common.{◌≡◌, ℕ, zero, suc, ◌+◌, ◌<◌, Bool, true, false, List, [], ◌∷◌, None, Some, map, filter, length, get_or, slice_get, ap, ◌∙◌, arith}
use Rattle.std.specs.Prelude.{cond, if◌then◌else◌}
use Rattle.child_trees.specs.Lists.{Lists, Entry, get, items, IsAt}
use Rattle.model_lists.specs.Lists.{places_from}

module _ {Map : Type 0} where
  item-at : (xs : List (Entry Map)) (place item : ℕ) → Some item ≡ slice_get (items xs) place → (place < length xs) × (get_or (items xs) place 0 ≡ item)
  item-at [] place item e = absurd (cc)
  item-at (x ∷ xs) zero item e = let same : x.item ≡ item = cc in (omega arith, same)
  item-at (x ∷ xs) (suc place) item e = let rest = item-at xs place item e in let l = rest.0 in (omega arith, rest.1)

  pub is-at : {Shape : Type 0} (v : Lists Shape Map) (list place item : ℕ) (xs : List (Entry Map)) → get v list ≡ Some xs → Some item ≡ slice_get (items xs) place → IsAt v item list place xs
  is-at v list place item xs e found = let h = item-at xs place item found in record { list = e; within = h.0; item_is = h.1 }

  pub none-at : (xs : List (Entry Map)) (place : ℕ) → place < length xs → None ≡ slice_get (items xs) place → ⊥
  none-at [] place l e = omega arith
  none-at (x ∷ xs) zero l e = let z : None ≡ Some x.item = e in cc
  none-at (x ∷ xs) (suc place) l e = none-at xs place (omega arith) e

  -- ---- marked leaves
  -- the k-th marked leaf has this item, and lies at a place of those of marked leaves
  abbrev pub IsMarkedAt : List (Entry Map) → ℕ → ℕ → ℕ → Type 0
  IsMarkedAt xs first k item =
      (place : ℕ) × (slice_get (places_from first (map (λ (e : Entry Map). e.marked) xs)) k ≡ Some (first + place)) × (Some item ≡ slice_get (items xs) place)

  abbrev marked_in : List (Entry Map) → List (Entry Map)
  marked_in xs = filter (λ (e : Entry Map). e.marked) xs

  abbrev places_in : ℕ → List (Entry Map) → List ℕ
  places_in first xs = places_from first (map (λ (e : Entry Map). e.marked) xs)

  none-step : (b : Bool) (x : Entry Map) (xs : List (Entry Map)) (first k : ℕ) →
      ((j : ℕ) → None ≡ slice_get (items (marked_in xs)) j → None ≡ slice_get (places_in (suc first) xs) j) →
      None ≡ slice_get (items (cond b (x ∷ marked_in xs) (marked_in xs))) k → None ≡ slice_get (if b then first ∷ places_in (suc first) xs else places_in (suc first) xs) k
  none-step true x xs first zero ih e = let z : None ≡ Some x.item = e in absurd (cc)
  none-step true x xs first (suc k) ih e = ih k e
  none-step false x xs first k ih e = ih k e

  pub marked-none : (xs : List (Entry Map)) (first k : ℕ) → None ≡ slice_get (items (marked_in xs)) k → None ≡ slice_get (places_in first xs) k
  marked-none [] first k e = e
  marked-none (x ∷ xs) first k e = none-step x.marked x xs first k (λ j. marked-none xs (suc first) j) e

  some-step : (b : Bool) (x : Entry Map) (xs : List (Entry Map)) (first k item : ℕ) →
      ((j : ℕ) → Some item ≡ slice_get (items (marked_in xs)) j → IsMarkedAt xs (suc first) j item) →
      Some item ≡ slice_get (items (cond b (x ∷ marked_in xs) (marked_in xs))) k →
      (place : ℕ) × (slice_get (if b then first ∷ places_in (suc first) xs else places_in (suc first) xs) k ≡ Some (first + place)) × (Some item ≡ slice_get (items (x ∷ xs)) place)
  some-step true x xs first zero item ih e = (0, ap Some (omega arith), e)
  some-step true x xs first (suc k) item ih e = let r = ih k e in (suc r.0, r.1 ∙ ap Some (omega arith), r.2)
  some-step false x xs first k item ih e = let r = ih k e in (suc r.0, r.1 ∙ ap Some (omega arith), r.2)

  pub marked-some : (xs : List (Entry Map)) (first k item : ℕ) → Some item ≡ slice_get (items (marked_in xs)) k → IsMarkedAt xs first k item
  marked-some [] first k item e = absurd (cc)
  marked-some (x ∷ xs) first k item e = some-step x.marked x xs first k item (λ j. marked-some xs (suc first) j item) e
