use Rattle.std.proofs.Common.{take}
use Rattle.std.specs.Prelude.{Contains}
use Rattle.schema_models.specs.inside.Marks.{IsMarkedMore}
use Rattle.schema_models.proofs.standing.mark.Given as goal

abbrev pub invariant-loop-id : goal.invariant-loop-id
invariant-loop-id l = IsMarkedMore (Contains (take l.id-index l.ids)) l.initial.marks l.marks
