use Rattle.std.proofs.Common.{take}
use Rattle.xs_codes.specs.Least.{IsLeast}
use Rattle.schema_models.specs.AllLimits.{IsMisfit}
use Rattle.schema_models.specs.inside.Marks.{Among}
use Rattle.schema_models.proofs.faults.first_misfit.Given as goal

abbrev pub invariant-loop-q : goal.invariant-loop-q
invariant-loop-q l = IsLeast (Among (IsMisfit l.parts) (take l.q-index l.members)) l.best
