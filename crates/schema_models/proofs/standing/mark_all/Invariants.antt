use Rattle.std.proofs.Common.{length}
use Rattle.schema_models.specs.inside.Marks.{IsStandingSoFar}
use Rattle.schema_models.proofs.standing.mark_all.Given as goal

abbrev pub invariant-loop-p : goal.invariant-loop-p
invariant-loop-p l = IsStandingSoFar l.parts l.order.items l.marks

abbrev pub decreases-loop-p : goal.decreases-loop-p
decreases-loop-p l = length l.order.items
