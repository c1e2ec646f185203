-- How many rows are below each row.
use Rattle.std.specs.Prelude.{ℕ, ◌+◌, List, [], ◌∷◌, ◌++◌, nat_lt, if◌then◌else◌}
use Rattle.tree_rows.specs.Forest.{Forest, none, text, element, count}
use Rattle.tree_rows.specs.declared.row.Row.{Row}

-- how many rows come next that are deeper
abbrev pub deeper_count : ℕ → List Row → ℕ
deeper_count depth [] = 0
deeper_count depth (row ∷ rows) = if nat_lt depth row.depth then 1 + deeper_count depth rows else 0

-- of each row, how many come next that are deeper
abbrev pub sizes : List Row → List ℕ
sizes [] = []
sizes (row ∷ rows) = deeper_count row.depth rows ∷ sizes rows

-- of each node, how many are below it
abbrev pub counts_of : Forest → List ℕ
counts_of none = []
counts_of (text number chars next) = 0 ∷ counts_of next
counts_of (element number name bindings attributes children next) = count children ∷ (counts_of children ++ counts_of next)
