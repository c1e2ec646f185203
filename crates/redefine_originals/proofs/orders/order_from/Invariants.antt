use Rattle.redefine_originals.specs.inside.Marks.{work}
use Rattle.redefine_originals.specs.inside.Orders.{IsOrdering}
use Rattle.redefine_originals.proofs.orders.order_from.Given as goal

abbrev pub invariant-loop-document : goal.invariant-loop-document
invariant-loop-document l = IsOrdering l.sources.available.now l.start l.seen.items l.left.items l.order.items

abbrev pub decreases-loop-document : goal.decreases-loop-document
decreases-loop-document l = work l.sources.available.now l.seen.items l.left.items
