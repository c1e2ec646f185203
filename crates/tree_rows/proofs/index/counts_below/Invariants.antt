use Rattle.std.proofs.Common.{◌≡◌, ◌≤◌, length, drop}
use Rattle.tree_rows.specs.Sizes.{sizes}
use Rattle.tree_rows.proofs.index.counts_below.Given as goal

abbrev pub invariant-loop-place : goal.invariant-loop-place
invariant-loop-place l =
    (drop l.place l.below.items ≡ sizes (drop l.place l.rows)) × (length l.below.items ≡ length l.rows) × (l.place ≤ length l.rows)

abbrev pub decreases-loop-place : goal.decreases-loop-place
decreases-loop-place l = l.place
