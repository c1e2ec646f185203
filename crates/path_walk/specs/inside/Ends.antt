-- Fields whose nodes are not far below a target.
use Rattle.std.specs.Prelude.{◌≡◌, ◌≤◌, ℕ, false, List, All}
use Rattle.xpath_subset.specs.inside.Steps.{child_count}
use Rattle.xpath_subset.specs.declared.path.Path.{Path}

-- no path reaches a node at the end of a way of more elements than so many
abbrev pub EndsWithin : List Path → ℕ → Type 0
EndsWithin field depth = All (λ (path : Path). (path.anywhere ≡ false) × (child_count path.steps ≤ depth)) field
