-- Edits on the rows of a tree.
use Rattle.std.specs.Prelude.{ℕ, ◌+◌, ◌-◌, List, [], ◌∷◌, ◌++◌, Bool, ◌==◌, nat_lt, nat_le, if◌then◌else◌}
use Rattle.tree_rows.specs.declared.row.Row.{Row}

-- the row has the number
abbrev pub is_numbered : ℕ → Row → Bool
is_numbered key row = row.number == key

-- how many rows of this depth come before one that is less deep
abbrev pub rows_width : ℕ → List Row → ℕ
rows_width depth [] = 0
rows_width depth (row ∷ rows) =
    if nat_lt row.depth depth then 0 else (if row.depth == depth then 1 + rows_width depth rows else rows_width depth rows)

-- new rows before the sibling of this depth that has this place
abbrev pub put_rows : ℕ → ℕ → List Row → List Row → List Row
put_rows place depth new [] = new
put_rows place depth new (row ∷ rows) =
    if nat_lt row.depth depth then new ++ (row ∷ rows)
    else (if row.depth == depth then (if place == 0 then new ++ (row ∷ rows) else row ∷ put_rows (place - 1) depth new rows)
    else row ∷ put_rows place depth new rows)

-- the row is not below one of this depth
abbrev pub ends_at : ℕ → Row → Bool
ends_at depth row = nat_le row.depth depth

-- the rows with numbers from this one on, and so many levels deeper
abbrev pub raised : ℕ → ℕ → List Row → List Row
raised free levels [] = []
raised free levels (row ∷ rows) = record row { number = free; depth = row.depth + levels } ∷ raised (free + 1) levels rows
