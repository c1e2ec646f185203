-- The rows of trees.
use Rattle.std.specs.Prelude.{◌≡◌, ℕ, ◌+◌, ◌≤◌, List, [], ◌∷◌, max}
use Rattle.tree_rows.specs.declared.limits.TheConstants.{MAX_DEPTH}
use Rattle.tree_rows.specs.Rows.{rows_of, siblings}
use Rattle.tree_rows.specs.declared.row.Row.{Row}
use Rattle.tree_rows.specs.declared.row.Content.{Content}
use Rattle.tree_rows.specs.declared.row.Content.TheVariants as contents

-- the depth of the deepest element, where the rows stand so many levels deeper; 0 where there is none
abbrev pub deepest_with : Content → ℕ → ℕ → ℕ
deepest_with (contents.Element name) depth later = max depth later
deepest_with (contents.Chars chars) depth later = later

abbrev pub deepest_row : ℕ → List Row → ℕ
deepest_row levels [] = 0
deepest_row levels (row ∷ rows) = deepest_with row.content (row.depth + levels) (deepest_row levels rows)

-- no row stands deeper
abbrev pub AreUnder : ℕ → List Row → Type 0
AreUnder most [] = Unit {0}
AreUnder most (row ∷ rows) = (row.depth ≤ most) × AreUnder most rows

-- the rows are those of a tree
abbrev pub AreWhole : List Row → Type 0
AreWhole rows = rows ≡ rows_of 1 (siblings rows 1)

-- rows of a tree that has no element that stands too deep
pub record AreSound (rows : List Row) : Type 0 where
  pub whole : AreWhole rows
  pub shallow : deepest_row 0 rows ≤ MAX_DEPTH
