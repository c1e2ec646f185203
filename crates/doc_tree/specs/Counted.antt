-- How many nodes there are.
use Rattle.std.specs.Prelude.{ℕ, ◌+◌, [], ◌∷◌, Some, None}
use Rattle.doc_nodes.specs.Nodes.{Nodes}

-- how many of the numbers that were given out are those of nodes
abbrev pub live_count : Nodes → ℕ
live_count [] = 0
live_count (None ∷ ns) = live_count ns
live_count (Some it ∷ ns) = 1 + live_count ns
