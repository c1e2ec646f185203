-- All elements of a forest, in document order, with the ways from an element above.
use Rattle.std.specs.Prelude.{ℕ, ◌+◌, List, [], ◌∷◌, ◌++◌}
use Rattle.std.specs.List.{flat_map}
use Rattle.xs_names.specs.Names.{NameTable}
use Rattle.xpath_subset.specs.declared.path.Path.{Path}
use Rattle.identity_constraints.specs.Seen.{KeyElement, KeyForest, none, element, Reached}
use Rattle.identity_constraints.specs.Targets.{FieldNode, nodes_at}

abbrev pub reached : List ℕ → KeyElement → KeyForest → Reached
reached way own below = record { way = way; own = own; below = below }

-- the siblings are at the end of a way
abbrev pub walk : List ℕ → KeyForest → List Reached
walk way none = []
walk way (element own below next) = reached (way ++ own.name ∷ []) own below ∷ (walk (way ++ own.name ∷ []) below ++ walk way next)

-- the nodes of a field among them
abbrev pub nodes_along : NameTable → List Path → List ℕ → KeyForest → List FieldNode
nodes_along names field way f = flat_map (nodes_at names field) (walk way f)

-- how many elements there are
abbrev pub size : KeyForest → ℕ
size none = 0
size (element own below next) = 1 + size below + size next
