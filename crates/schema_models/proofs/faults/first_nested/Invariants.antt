use Rattle.std.proofs.Common.{take}
use Rattle.xs_codes.specs.Least.{IsLeast}
use Rattle.schema_models.specs.AllLimits.{IsNested}
use Rattle.schema_models.specs.inside.Marks.{Among}
use Rattle.schema_models.proofs.faults.first_nested.Given as goal

abbrev pub invariant-loop-q : goal.invariant-loop-q
invariant-loop-q l = IsLeast (Among (IsNested l.parts) (take l.q-index l.members)) l.best
