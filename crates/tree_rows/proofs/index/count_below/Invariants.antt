use Rattle.std.proofs.Common.{◌≡◌, ◌+◌, ◌-◌, ◌≤◌, length, drop}
use Rattle.tree_rows.specs.Sizes.{deeper_count}
use Rattle.tree_rows.proofs.index.count_below.Given as goal

abbrev pub invariant-loop-place : goal.invariant-loop-place
invariant-loop-place l =
    (l.from ≤ l.place) × (l.place ≤ length l.rows) × (l.place + deeper_count l.depth (drop l.place l.rows) ≡ l.from + deeper_count l.depth (drop l.from l.rows))

abbrev pub decreases-loop-place : goal.decreases-loop-place
decreases-loop-place l = length l.rows - l.place
