use Rattle.std.proofs.Common.{◌≡◌, ◌≤◌, ◌-◌, length}
use Rattle.schema_models.specs.inside.Marks.{AreCounted}
use Rattle.schema_models.proofs.limit_order.all_particles.Given as goal

abbrev pub invariant-loop-id : goal.invariant-loop-id
invariant-loop-id l = (length l.all.items ≡ l.number) × (l.number ≤ length l.parts.particles.parts) × AreCounted l.all.items

abbrev pub decreases-loop-id : goal.decreases-loop-id
decreases-loop-id l = length l.parts.particles.parts - l.number
