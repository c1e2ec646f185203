use Rattle.std.proofs.Common.{◌≤◌, ◌-◌, length}
use Rattle.derive_models.specs.Steps.{AreFirstStanding}
use Rattle.derive_models.proofs.standing.stands_for.Given as goal

abbrev pub invariant-loop-id : goal.invariant-loop-id
invariant-loop-id l = record {
  few : l.number ≤ length l.parts.particles.parts;
  standing : AreFirstStanding l.parts l.members l.number l.all.items;
}

abbrev pub decreases-loop-id : goal.decreases-loop-id
decreases-loop-id l = length l.parts.particles.parts - l.number
