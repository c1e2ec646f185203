use Rattle.std.proofs.Common.{◌≡◌, drop}
use Rattle.plain_tree.specs.Behind.{number_in}
use Rattle.plain_tree.proofs.nodes.number_in.Given as goal

abbrev pub invariant-loop-row : goal.invariant-loop-row
invariant-loop-row l = number_in l.left l.depth (drop l.row-index l.rows) ≡ number_in l.place l.depth l.rows
