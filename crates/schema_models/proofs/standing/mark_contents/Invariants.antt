use Rattle.schema_models.specs.inside.Marks.{IsMarkedMore, IsContentBelow}
use Rattle.schema_models.proofs.standing.mark_contents.Given as goal

abbrev pub invariant-loop-content : goal.invariant-loop-content
invariant-loop-content l = IsMarkedMore (IsContentBelow l.parts l.content-index) l.initial.marks l.marks
