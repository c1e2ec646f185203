use Rattle.schema_models.specs.inside.Marks.{IsMarkedMore, IsGroupBelow}
use Rattle.schema_models.proofs.standing.mark_groups.Given as goal

abbrev pub invariant-loop-group : goal.invariant-loop-group
invariant-loop-group l = IsMarkedMore (IsGroupBelow l.parts l.group-index) l.initial.marks l.marks
