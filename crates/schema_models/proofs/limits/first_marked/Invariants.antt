use Rattle.std.proofs.Common.{◌≤◌, ◌-◌, length}
use Rattle.xs_codes.specs.Least.{IsLeast}
use Rattle.schema_models.specs.inside.Marks.{IsUnlimitedBelow}
use Rattle.schema_models.proofs.limits.first_marked.Given as goal

abbrev pub invariant-loop-p : goal.invariant-loop-p
invariant-loop-p l = (l.number ≤ length l.parts.particles.parts) × IsLeast (IsUnlimitedBelow l.parts l.number) l.best

abbrev pub decreases-loop-p : goal.decreases-loop-p
decreases-loop-p l = length l.parts.particles.parts - l.number
