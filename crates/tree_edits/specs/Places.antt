-- The scope of a place, from the rows before it.
use Rattle.std.specs.Prelude.{ℕ, List, [], ◌∷◌, ◌++◌, nat_lt, if◌then◌else◌}
use Rattle.tree_rows.specs.declared.row.Binding.{Binding}
use Rattle.tree_rows.specs.declared.row.Row.{Row}

-- the scope above this depth, where these rows come before, the last one first, and the first stands in this scope
abbrev pub scope_above : ℕ → List Binding → List Row → List Binding
scope_above depth scope [] = scope
scope_above depth scope (row ∷ earlier) =
    if nat_lt row.depth depth then row.bindings ++ scope_above row.depth scope earlier else scope_above depth scope earlier
