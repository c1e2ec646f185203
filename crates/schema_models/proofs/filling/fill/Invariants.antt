use Rattle.std.proofs.Common.{take}
use Rattle.schema_models.specs.inside.Steps.{IsInOrder, IsSoFar}
use Rattle.schema_models.proofs.filling.fill.Given as goal

abbrev pub invariant-loop-id : goal.invariant-loop-id
invariant-loop-id l =
    IsInOrder l.source.parts.now l.id-items ×
    IsSoFar l.source.names.now l.source.parts.now l.source.members.now l.source.classes.now (take l.id-index l.id-items) l.models l.progress.cells_left l.progress.first
