use Rattle.std.proofs.Common.{◌≤◌, ◌-◌, length}
use Rattle.derive_models.specs.Steps.{AreSpaces}
use Rattle.derive_models.proofs.terms.add_spaces.Given as goal

abbrev pub invariant-loop-id : goal.invariant-loop-id
invariant-loop-id l = record {
  few : l.number ≤ length l.parts.particles.parts;
  terms : AreSpaces l.parts l.flags l.number l.fn.terms.items l.terms.items;
}

abbrev pub decreases-loop-id : goal.decreases-loop-id
decreases-loop-id l = length l.parts.particles.parts - l.number
