use Rattle.std.proofs.Common.{◌≤◌, ◌-◌, length}
use Rattle.xs_codes.specs.Least.{IsLeast}
use Rattle.schema_models.specs.inside.Steps.{IsMisjudgedBelow}
use Rattle.schema_models.proofs.judging.judge_all.Given as goal

abbrev pub invariant-loop-id : goal.invariant-loop-id
invariant-loop-id l =
    (l.number ≤ length l.source.parts.now.complexes.parts) × IsLeast (IsMisjudgedBelow l.source.names.now l.source.parts.now l.source.members.now l.models l.number) l.best

abbrev pub decreases-loop-id : goal.decreases-loop-id
decreases-loop-id l = length l.source.parts.now.complexes.parts - l.number
