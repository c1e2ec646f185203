use Rattle.std.proofs.Common.{◌≡◌, length}
use Rattle.plain_tree.specs.Behind.{tail_at}
use Rattle.plain_tree.proofs.nodes.find_row.Given as goal

abbrev pub invariant-left : goal.invariant-left
invariant-left l = tail_at l.node l.left ≡ tail_at l.node l.rows

abbrev pub decreases-left : goal.decreases-left
decreases-left l = length l.left
