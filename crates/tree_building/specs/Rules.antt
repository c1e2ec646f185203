-- What is asked of items that are to be a tree.
use Rattle.std.specs.Prelude.{ℕ, Bool, true, false, nat_lt, Option, Some, None}
use Rattle.tree_rows.specs.declared.limits.TheConstants.{MAX_DEPTH, MAX_NODES}
use Rattle.tree_building.specs.declared.rules.Rules.{Rules}

-- past a limit, if there is one
abbrev pub past : Option ℕ → ℕ → Bool
past None number = false
past (Some most) number = nat_lt most number

-- a document has elements of depth 128 at most and at most 131,072 nodes, and its names are judged
abbrev pub document_rules : Rules
document_rules = record { levels = Some MAX_DEPTH; nodes = Some MAX_NODES; names = true }

-- a block has no limits, and its names are not judged
abbrev pub block_rules : Rules
block_rules = record { levels = None; nodes = None; names = false }
