-- The documents behind a place.
use Rattle.std.proofs.Common.{◌≡◌, ℕ, ◌<◌, ◌≤◌, true, false, List, [], ◌∷◌, None, Some, drop, slice_get, refl, arith}
use Rattle.std.specs.Prelude.{nat_lt}
use Rattle.std.proofs.lemmas.Bool.Decides.{nat_tests}
use Rattle.representations.specs.declared.origins.Origin.{Origin}
use Rattle.reference_faults.specs.Imports.{origin_at}

is-not-below : (p end : ℕ) → end ≤ p → nat_lt p end ≡ false
is-not-below p end h = grind (arith, nat_tests)

is-below : (p end : ℕ) → p < end → nat_lt p end ≡ true
is-below p end h = grind (arith, nat_tests)

-- a document that ends before
pub skip-one : (origins : List Origin) (first : Origin) (p : ℕ) → slice_get origins 0 ≡ Some first → first.end ≤ p → origin_at (drop 1 origins) p ≡ origin_at origins p
skip-one [] first p e h = refl
skip-one (origin ∷ origins) first p e h =
    let same : origin ≡ first = (let s : Some origin ≡ Some first = e in cc) in
    rw (is-not-below p origin.end (rw same h)) refl

-- the first document ends behind the place
pub found-here : (origins : List Origin) (first : Origin) (p : ℕ) → slice_get origins 0 ≡ Some first → p < first.end → slice_get origins 0 ≡ origin_at origins p
found-here [] first p e h = refl
found-here (origin ∷ origins) first p e h =
    let same : origin ≡ first = (let s : Some origin ≡ Some first = e in cc) in
    rw (is-below p origin.end (rw same h)) refl

pub found-none : (origins : List Origin) (p : ℕ) → slice_get origins 0 ≡ None → slice_get origins 0 ≡ origin_at origins p
found-none [] p e = refl
found-none (origin ∷ origins) p e = absurd (let s : Some origin ≡ None = e in cc)
