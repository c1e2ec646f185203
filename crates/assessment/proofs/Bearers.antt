-- The entries with those that bear the IDs of their texts.
use Rattle.std.proofs.Common.{◌≡◌, ℕ, ◌∷◌, ◌++◌, map, refl, ap, ◌∙◌}
use Rattle.std.proofs.lemmas.List.{map-append}
use Rattle.assessment.specs.Assessment.{Entry, Assessed, nothing, entry, entries}
use Rattle.assessment.specs.Bearings.{Bearing, bearings_below, bearings}

abbrev own_of : Bearing → Entry
own_of b = b.own

below-are : (parent : ℕ) (found : Assessed) → map own_of (bearings_below parent found) ≡ entries found
below-are parent nothing = refl
below-are parent (entry own below next) =
    ap (λ more. own ∷ more) (map-append own_of (bearings_below own.number below) (bearings_below parent next)
    ∙ (ap (λ first. first ++ map own_of (bearings_below parent next)) (below-are own.number below) ∙ ap (λ last. entries below ++ last) (below-are parent next)))

pub bearers-are : (found : Assessed) → map (λ (b : Bearing). b.own) (bearings found) ≡ entries found
bearers-are nothing = refl
bearers-are (entry own below next) =
    ap (λ more. own ∷ more) (map-append own_of (bearings_below own.number below) (bearings next)
    ∙ (ap (λ first. first ++ map own_of (bearings next)) (below-are own.number below) ∙ ap (λ last. entries below ++ last) (bearers-are next)))
