use Rattle.std.proofs.Common.{◌≡◌, ◌+◌, drop}
use Rattle.std.specs.List.{position_or_len}
use Rattle.tree_edits.specs.EditRows.{is_numbered}
use Rattle.tree_edits.proofs.places.place_of.Given as goal

abbrev pub invariant-loop-place : goal.invariant-loop-place
invariant-loop-place l = l.place + position_or_len (is_numbered l.number) (drop l.place l.rows) ≡ position_or_len (is_numbered l.number) l.rows
