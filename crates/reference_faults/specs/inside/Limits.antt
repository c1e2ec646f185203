-- The place of the first component past the limit.
use Rattle.std.specs.Prelude.{◌≡◌, List, Option, None, Some}
use Rattle.xs_components.specs.declared.common.Place.{Place}
use Rattle.reference_faults.specs.Limit.{IsPastLimit}

-- the only place past the limit, if there is one
abbrev pub IsLimit : List Place → Option Place → Type 0
IsLimit places None = (at : Place) → IsPastLimit places at → ⊥
IsLimit places (Some at) = IsPastLimit places at × ((other : Place) → IsPastLimit places other → other ≡ at)
