use Rattle.std.proofs.Common.{◌≤◌, ◌-◌, length}
use Rattle.derive_models.specs.Steps.{AreFlags}
use Rattle.derive_models.proofs.any_type.any_flags.Given as goal

abbrev pub invariant-loop-id : goal.invariant-loop-id
invariant-loop-id l = record {
  few : l.number ≤ length l.parts.complexes.parts;
  flags : AreFlags l.parts l.number l.flags.items;
}

abbrev pub decreases-loop-id : goal.decreases-loop-id
decreases-loop-id l = length l.parts.complexes.parts - l.number
