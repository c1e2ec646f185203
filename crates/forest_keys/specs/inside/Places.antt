-- Elements by their places in document order.
use Rattle.std.specs.Prelude.{ℕ, ◌+◌, List, [], ◌∷◌, ◌++◌, Option, Some}
use Rattle.identity_constraints.specs.Seen.{KeyForest, none, element}
use Rattle.path_walk.specs.inside.Walk.{size}
use Rattle.identity_constraints.specs.Counting.{Numbers, none as no_numbers, node}

-- the places of siblings and of all below them, from a place on
abbrev pub placed : ℕ → KeyForest → Numbers
placed place none = no_numbers
placed place (element own below next) = node place (placed (place + 1) below) (placed (place + 1 + size below) next)

-- the places of the parents, of siblings with this parent and of all below them
abbrev pub parents_along : ℕ → Option ℕ → KeyForest → List (Option ℕ)
parents_along place parent none = []
parents_along place parent (element own below next) = parent ∷ (parents_along (place + 1) (Some place) below ++ parents_along (place + 1 + size below) parent next)
