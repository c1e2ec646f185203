use Rattle.std.proofs.Common.{◌≡◌, ◌+◌, drop}
use Rattle.std.specs.List.{position_or_len}
use Rattle.tree_edits.specs.EditRows.{ends_at}
use Rattle.tree_edits.proofs.places.below_count.Given as goal

abbrev pub invariant-loop-count : goal.invariant-loop-count
invariant-loop-count l = l.count + position_or_len (ends_at l.depth) (drop l.count l.rows) ≡ position_or_len (ends_at l.depth) l.rows
