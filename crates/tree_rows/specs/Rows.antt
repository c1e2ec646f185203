-- A tree as its nodes in document order, each with its depth.
use Rattle.std.specs.Prelude.{ℕ, ◌+◌, List, [], ◌∷◌, ◌++◌, ◌==◌, nat_lt, if◌then◌else◌}
use Rattle.tree_rows.specs.Forest.{Forest, none, text, element}
use Rattle.tree_rows.specs.declared.row.Attribute.{Attribute}
use Rattle.tree_rows.specs.declared.row.Binding.{Binding}
use Rattle.tree_rows.specs.declared.row.Row.{Row}
use Rattle.tree_rows.specs.declared.row.Content.{Content}
use Rattle.tree_rows.specs.declared.row.Content.TheVariants as contents

-- the nodes in document order, where the first siblings have this depth
abbrev pub rows_of : ℕ → Forest → List Row
rows_of depth none = []
rows_of depth (text number chars next) =
    record { number = number; depth = depth; content = contents.Chars chars; bindings = []; attributes = [] } ∷ rows_of depth next
rows_of depth (element number name bindings attributes children next) =
    record { number = number; depth = depth; content = contents.Element name; bindings = bindings; attributes = attributes }
    ∷ (rows_of (depth + 1) children ++ rows_of depth next)

-- a node with what is below it and what comes next
abbrev pub node : ℕ → Content → List Binding → List Attribute → Forest → Forest → Forest
node number (contents.Element name) bindings attributes children next = element number name bindings attributes children next
node number (contents.Chars chars) bindings attributes children next = text number chars next

-- the siblings of this depth that come next: a row that is deeper is below one that came before, and one that is less deep
-- ends them
abbrev pub siblings : List Row → ℕ → Forest
siblings [] depth = none
siblings (row ∷ rows) depth =
    if row.depth == depth then node row.number row.content row.bindings row.attributes (siblings rows (depth + 1)) (siblings rows depth)
    else (if nat_lt depth row.depth then siblings rows depth else none)
